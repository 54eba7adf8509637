use Rattle.rx_sparse.proofs.RowTexts.{rows_again}
use Rattle.rx_sparse.proofs.laws.rows_are_read_again.Goals as goal

pub returns : goal.returns
returns c = rows_again
