use Rattle.rx_dense.proofs.Swaps.{Copying}
use Rattle.rx_dense.proofs.dfa.rows.copy_row.Given as goal

abbrev pub invariant-loop-column : goal.invariant-loop-column
invariant-loop-column l = Copying l.width l.column l.fn.words l.words l.from l.to
