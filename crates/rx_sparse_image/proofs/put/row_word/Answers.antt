use Rattle.rx_spec.proofs.Prelude.{common_steps, arith}
use Rattle.rx_sparse_image.proofs.Sizes.{rows_few}
use Rattle.rx_sparse_image.proofs.put.row_word.Goals as goal

pub overflow_cast-result : goal.overflow_cast-result
overflow_cast-result g c = grind (arith, common_steps, rows_few)
