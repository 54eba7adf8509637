-- In the NFA of expressions that are safe to repeat, paths that read nothing are as short as a closure asks.
use Rattle.rx_spec.proofs.Prelude.{[], arith, ℕ, Bool, List, ◌∷◌, map, All, common_steps, recursion_from_All}
use Rattle.rx_spec.proofs.Prelude.{Expression, IsLoopSafe, nfa_of, read_as, IsShallow}
use Rattle.std.specs.List.{AllByRecursion as Every}
use Rattle.rx_spec.specs.declared.Direction.{Direction}
use Rattle.rx_lemmas.proofs.Mirrors.{IsLoopSafe-mirror}
use Rattle.rx_lemmas.proofs.Patterns.{nfa_deep}

read_safe : (direction : Direction) (es : List Expression) → Every IsLoopSafe es
    → Every IsLoopSafe (map (read_as direction) es)
read_safe direction [] h = tt
read_safe Direction.Forward (e ∷ es) h = (h.0, read_safe Direction.Forward es h.1)
read_safe Direction.Reverse (e ∷ es) h = (IsLoopSafe-mirror e h.0, read_safe Direction.Reverse es h.1)

pub nfa_shallow : (direction : Direction) (line_terminator : ℕ) (is_utf8 : Bool) (es : List Expression)
    → All IsLoopSafe es → IsShallow (nfa_of direction line_terminator is_utf8 es).rows
unfolding nfa_of
nfa_shallow direction line_terminator is_utf8 es safe =
    grind (arith, common_steps, nfa_deep, read_safe, recursion_from_All)
