use Rattle.rx_sparse_build.proofs.Bounds.{too_long}
use Rattle.rx_sparse_build.proofs.row_lengths.long_rows_have_a_long_bound.Goals as goal

pub returns : goal.returns
returns c = λ b byte_classes l is over. too_long is over
