use Rattle.rx_spec.proofs.Prelude.{common_steps, arith}
use Rattle.rx_dense_image.proofs.ImageLengths.{length-text}
use Rattle.rx_dense_image.proofs.put.image_len.Goals as goal

pub returns-clause-text : goal.returns-clause-text
returns-clause-text g c = grind (arith, common_steps, length-text)
