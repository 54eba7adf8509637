use Rattle.rx_spec.proofs.Prelude.{arith, common_steps}
use Rattle.rx_sparse_build.proofs.Lengths.{len_greatest, len_is}
use Rattle.rx_sparse_build.proofs.row_lengths.rows_are_as_long_as_their_states.Goals as goal

pub returns-clause-exactly : goal.returns-clause-exactly
returns-clause-exactly c = λ b byte_classes accelerate l is. len_is is

pub returns-clause-greatest : goal.returns-clause-greatest
returns-clause-greatest c = grind (arith, common_steps, len_greatest)
