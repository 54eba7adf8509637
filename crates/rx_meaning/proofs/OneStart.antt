-- One start row serves anchored and unanchored searches exactly where every expression must begin with
-- the text's edge.
use Rattle.rx_spec.proofs.Prelude.{common_steps, ◌≡◌, ℕ, suc, zero, ◌+◌, ◌-◌, ◌<◌, ◌≤◌, Bool, Option, Some, None, List}
use Rattle.rx_spec.proofs.Prelude.{[], ◌∷◌, length, map, arith, length-append, list_all, Expression, Row, Maker}
use Rattle.rx_spec.proofs.Prelude.{chained, either, copies, optional, repeated, compile, patterns_from, start_of_all}
use Rattle.rx_spec.proofs.Prelude.{nfa_of, read_as, is_always_start_anchored, begins_with_edge}
use Rattle.std.specs.List.{AllByRecursion as Every}
use Rattle.rx_spec.specs.declared.Direction.{Direction}

-- The entry of a part is one of its rows, or what comes after it, which stands before.
record Enters (maker : Maker) : Type 0 where
  within : (base next : ℕ) → next < base → (maker base next).entry < base + length (maker base next).rows

chained_enters : {first second : Maker} → Enters first → Enters second → Enters (chained first second)
chained_enters {first} {second} f s = grind (arith, common_steps)

either_enters : (first second : Maker) → Enters (either first second)
either_enters first second = grind (arith, common_steps)

copies_enter : {body : Maker} → Enters body → (n : ℕ) → Enters (copies n body)
unfolding copies
copies_enter h zero = record { within = λ base next l. omega arith }
copies_enter h (suc n) = let all = chained_enters (copies_enter h n) h in record { within = all.within }

optional_enters : (greedy : Bool) (body : Maker) (n : ℕ) → Enters (optional greedy n body)
unfolding optional
optional_enters greedy body zero = record { within = λ base next l. omega arith }
optional_enters greedy body (suc n) = grind (arith, common_steps)

repeated_enters : (least : ℕ) (most : Option ℕ) (greedy : Bool) {body : Maker} → Enters body
    → Enters (repeated least most greedy body)
repeated_enters least None greedy {body} h = grind (arith, common_steps, chained_enters, copies_enter)
repeated_enters least (Some most) greedy {body} h =
    chained_enters (copies_enter h least) (optional_enters greedy body (most - least))

compile_enters : (e : Expression) → Enters (compile e)
unfolding compile
compile_enters (Expression.Concat a b) = chained_enters (compile_enters a) (compile_enters b)
compile_enters (Expression.Alternate a b) = either_enters (compile a) (compile b)
compile_enters (Expression.Repeat least most greedy body) = repeated_enters least most greedy (compile_enters body)
compile_enters _ = record { within = λ base next l. omega arith }

-- the entries of patterns lie below the end of their rows
patterns_enter : (es : List Expression) (base k end : ℕ) → base + length (patterns_from base k es).rows ≤ end
    → Every (λ entry. entry < end) (patterns_from base k es).entries
unfolding patterns_from
patterns_enter [] base k end h = tt
patterns_enter (e ∷ es) base k end h =
    let part = compile e (base + 1) base in
    let others = patterns_from (base + 1 + length part.rows) (k + 1) es in
    let total = length-append (Row.Match k ∷ part.rows) others.rows in (
      omega (arith, (compile_enters e).within (base + 1) base (omega arith)),
      patterns_enter es (base + 1 + length part.rows) (k + 1) end (omega arith),
    )

start_of_all_enters : (base : ℕ) (entries : List ℕ) → Every (λ entry. entry < base) entries
    → (start_of_all base entries).entry < base + length (start_of_all base entries).rows
unfolding start_of_all
start_of_all_enters base [] h = omega arith
start_of_all_enters base (entry ∷ []) h = let l = h.0 in omega arith
start_of_all_enters base (entry ∷ (next ∷ entries)) h = grind (arith, common_steps)

pub one_start : (direction : Direction) (t : ℕ) (is_utf8 : Bool) (es : List Expression)
    → is_always_start_anchored (nfa_of direction t is_utf8 es)
    ≡ list_all (begins_with_edge direction) (map (read_as direction) es)
unfolding nfa_of
one_start direction t is_utf8 es = grind (arith, common_steps, start_of_all_enters, patterns_enter)
