use Rattle.rx_spec.proofs.Prelude.{common_steps, arith}
use Rattle.rx_sparse.proofs.RowTexts.{length-rows}
use Rattle.rx_sparse_image.proofs.put.len_word.Goals as goal

pub overflow_cast-result : goal.overflow_cast-result
overflow_cast-result g c = grind (arith, common_steps, length-rows)

pub returns : goal.returns
returns g c = grind (arith, common_steps, length-rows)
