use Rattle.rx_dense.proofs.Swaps.{Exchange}
use Rattle.rx_dense.proofs.dfa.rows.swap_rows.Given as goal

abbrev pub invariant-loop-column : goal.invariant-loop-column
invariant-loop-column l = Exchange l.width l.column l.fn.words.items l.words.items l.first l.second
