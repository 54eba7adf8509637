use Rattle.rx_spec.proofs.Prelude.{common_steps, arith}
use Rattle.rx_dense_image.proofs.put.patterns_word.Goals as goal

pub overflow_cast-result : goal.overflow_cast-result
overflow_cast-result g c = grind (arith, common_steps)
