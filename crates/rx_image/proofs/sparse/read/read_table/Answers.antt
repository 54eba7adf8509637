use Rattle.rx_spec.proofs.Prelude.{arith, common_steps}
use Rattle.rx_sparse_image.proofs.ReadImages.{image_whole, miscounted_image, parts_fit}
use Rattle.rx_image.proofs.sparse.read.read_table.Goals as goal

pub returns-then-count-image-clause-read : goal.returns-then-count-image-clause-read
returns-then-count-image-clause-read c = grind (arith, common_steps, miscounted_image)

pub from_parts-requires : goal.from_parts-requires
from_parts-requires c = grind (arith, common_steps, parts_fit)

pub returns-clause-whole : goal.returns-clause-whole
returns-clause-whole c = grind (arith, common_steps, image_whole)
