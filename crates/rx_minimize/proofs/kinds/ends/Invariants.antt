use Rattle.rx_minimize.proofs.KeptEnds.{AreEndsBefore, AreEndsUpTo}
use Rattle.rx_minimize.proofs.kinds.ends.Given as goal

abbrev pub invariant-rows : goal.invariant-rows
invariant-rows l = AreEndsBefore l.dfa l.firsts l.ends l.place

abbrev pub invariant-kinds : goal.invariant-kinds
invariant-kinds l = AreEndsUpTo l.dfa l.firsts l.ends l.place l.other
