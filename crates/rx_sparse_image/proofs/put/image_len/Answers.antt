use Rattle.rx_spec.proofs.Prelude.{common_steps, arith}
use Rattle.rx_sparse.proofs.RowTexts.{length-rows}
use Rattle.rx_sparse_image.proofs.Sizes.{length-text}
use Rattle.rx_sparse_image.proofs.put.image_len.Goals as goal

pub returns-clause-value : goal.returns-clause-value
returns-clause-value g c = grind (arith, common_steps, length-rows)

pub returns-clause-text : goal.returns-clause-text
returns-clause-text g c = grind (arith, common_steps, length-text, length-rows)
