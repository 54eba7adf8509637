use Rattle.rx_spec.proofs.Prelude.{map}
use Rattle.rx_dense.proofs.StartNumbers.{Entry}
use Rattle.rx_order.proofs.MarkedRows.{AreNoted}
use Rattle.rx_order.proofs.kinds.start_rows.Given as goal

abbrev pub invariant-loop-id : goal.invariant-loop-id
invariant-loop-id l = AreNoted l.dfa l.starts.items (map (λ (e : Entry). e.0) l.id-iterator) l.dfa.starts
