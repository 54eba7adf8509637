use Rattle.rx_spec.proofs.Prelude.{keys}
use Rattle.rx_order.proofs.MarkedRows.{AreNoted}
use Rattle.rx_order.proofs.shuffle_rows.match_rows.Given as goal

abbrev pub invariant-loop-id : goal.invariant-loop-id
invariant-loop-id l = AreNoted l.dfa l.rows.items l.id-iterator (keys l.matches)
