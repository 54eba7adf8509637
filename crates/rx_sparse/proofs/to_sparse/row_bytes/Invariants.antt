use Rattle.rx_sparse.proofs.SparseBytes.{AreWritten}
use Rattle.rx_sparse.proofs.to_sparse.row_bytes.Given as goal

abbrev pub invariant-loop-row : goal.invariant-loop-row
invariant-loop-row g l = AreWritten l.dfa l.bytes.items l.row-iterator
