use Rattle.rx_spec.proofs.Prelude.{slice_index}
use Rattle.rx_order.proofs.Prelude.{patterns_of, stride, table_of}
use Rattle.rx_order.proofs.InsertedLists.{AreInserted}
use Rattle.rx_order.proofs.patterns.patterns_of_rows.Given as goal

abbrev pub invariant-loop-place : goal.invariant-loop-place
invariant-loop-place l =
    AreInserted (λ place. patterns_of (table_of l.dfa) (slice_index l.rows place)) (stride l.dfa)
    (slice_index l.ends 1) l.place l.lists
