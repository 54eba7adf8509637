use Rattle.rx_sparse.proofs.SparseBytes.{AreNoted}
use Rattle.rx_sparse.proofs.to_sparse.row_offsets.Given as goal

abbrev pub invariant-loop-row : goal.invariant-loop-row
invariant-loop-row g l = AreNoted l.dfa l.ids.items l.len l.row-iterator
