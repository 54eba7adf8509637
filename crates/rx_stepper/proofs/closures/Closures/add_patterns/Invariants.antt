use Rattle.rx_spec.proofs.Prelude.{◌≡◌, ◌++◌, drop, ℕ, flat_map, row_at, pattern_of}
use Rattle.rx_stepper.proofs.Prelude.{meaning}
use Rattle.rx_stepper.proofs.closures.Closures.add_patterns.Given as goal

-- the patterns so far, and those of the rows that are left
abbrev pub invariant-loop-id : goal.invariant-loop-id
invariant-loop-id l =
    let each = λ (q : ℕ). pattern_of (row_at (meaning l.self.nfa.now).rows q) in
    l.label.items ++ flat_map each (drop l.id-index l.rows) ≡ l.fn.label.items ++ flat_map each l.rows
