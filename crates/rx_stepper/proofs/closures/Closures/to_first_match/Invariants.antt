use Rattle.rx_stepper.proofs.Prelude.{IsUncut, meaning}
use Rattle.rx_stepper.proofs.closures.Closures.to_first_match.Given as goal

abbrev pub invariant-loop-i : goal.invariant-loop-i
invariant-loop-i l = IsUncut (meaning l.self.nfa.now).rows l.rows l.i
