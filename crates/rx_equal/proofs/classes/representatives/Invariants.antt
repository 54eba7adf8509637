use Rattle.rx_equal.proofs.Representatives.{RepresentBelow}
use Rattle.rx_equal.proofs.classes.representatives.Given as goal

abbrev pub invariant-loop-n : goal.invariant-loop-n
invariant-loop-n g l = RepresentBelow (g.A.Automaton.table l.a) (g.B.Automaton.table l.b) l.units l.n
