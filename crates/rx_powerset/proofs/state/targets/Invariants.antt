use Rattle.rx_spec.proofs.Prelude.{◌≡◌, ◌++◌, drop, ℕ, flat_map, row_at, target}
use Rattle.rx_base.specs.Unit.{unit_number}
use Rattle.rx_expr.specs.Nfa.{meaning}
use Rattle.rx_powerset.proofs.state.targets.Given as goal

-- the targets so far, and those of the rows that are left
abbrev pub invariant-loop-id : goal.invariant-loop-id
invariant-loop-id l =
    let each = λ (q : ℕ). target (unit_number l.unit) (row_at (meaning l.nfa).rows q) in
    l.targets.items ++ flat_map each (drop l.id-index l.rows) ≡ flat_map each l.rows
