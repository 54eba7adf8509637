use Rattle.rx_spec.proofs.Prelude.{◌≡◌, ◌++◌, drop}
use Rattle.rx_stepper.proofs.Prelude.{matches_of, meaning}
use Rattle.rx_stepper.proofs.closures.Closures.add_matches.Given as goal

-- the matches so far, and those of the rows that are left
abbrev pub invariant-loop-id : goal.invariant-loop-id
invariant-loop-id l =
    let rows = (meaning l.self.nfa.now).rows in
    l.matches.items ++ matches_of rows (drop l.id-index l.rows) ≡ l.fn.matches.items ++ matches_of rows l.rows
