use Rattle.rx_spec.proofs.Prelude.{row_of}
use Rattle.rx_order.proofs.Prelude.{ids_of, table_of}
use Rattle.rx_order.proofs.Leaving.{AreFound}
use Rattle.rx_order.proofs.skips.needles.Given as goal

abbrev pub invariant-loop-byte : goal.invariant-loop-byte
invariant-loop-byte l = AreFound (table_of l.dfa) (row_of (ids_of l.dfa) l.id) l.accel l.byte
