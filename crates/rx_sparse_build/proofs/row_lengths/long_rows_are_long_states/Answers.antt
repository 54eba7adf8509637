use Rattle.rx_sparse_build.proofs.Lengths.{fits, too_long}
use Rattle.rx_sparse_build.proofs.row_lengths.long_rows_are_long_states.Goals as goal

pub returns-clause-passed : goal.returns-clause-passed
returns-clause-passed c = λ b byte_classes accelerate l is over. too_long is over

pub returns-clause-fits : goal.returns-clause-fits
returns-clause-fits c = λ b byte_classes accelerate l is within e. fits is within e
