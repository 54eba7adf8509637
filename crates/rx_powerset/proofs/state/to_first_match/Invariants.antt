use Rattle.rx_expr.specs.Nfa.{meaning}
use Rattle.rx_lemmas.proofs.Uncut.{IsUncut}
use Rattle.rx_powerset.proofs.state.to_first_match.Given as goal

abbrev pub invariant-loop-i : goal.invariant-loop-i
invariant-loop-i l = IsUncut (meaning l.nfa).rows l.rows l.i
