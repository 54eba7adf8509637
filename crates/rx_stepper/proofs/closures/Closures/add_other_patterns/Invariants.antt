use Rattle.rx_spec.proofs.Prelude.{◌≡◌, ◌++◌, drop}
use Rattle.rx_stepper.proofs.Prelude.{meaning, patterns_of, without}
use Rattle.rx_stepper.proofs.closures.Closures.add_other_patterns.Given as goal

-- the patterns so far, and those of the rows that are left
abbrev pub invariant-loop-id : goal.invariant-loop-id
invariant-loop-id l =
    let patterns = patterns_of (meaning l.self.nfa.now).rows in
    l.label.items ++ patterns (without l.others (drop l.id-index l.rows))
    ≡ l.fn.label.items ++ patterns (without l.others l.rows)
