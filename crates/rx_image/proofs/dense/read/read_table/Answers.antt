use Rattle.rx_spec.proofs.Prelude.{rules}
use Rattle.rx_dense.specs.Parts.{layout_of}
use Rattle.rx_dense_image.proofs.ShapedImages.{shaped}
use Rattle.rx_image.proofs.dense.read.read_table.Goals as goal

pub from_parts-requires : goal.from_parts-requires
from_parts-requires c =
    shaped (layout_of c.in_ok-parts.parts) (record { read = c.in_ok-parts.ensures.parts; closed = search rules })

pub returns-clause-whole : goal.returns-clause-whole
returns-clause-whole c =
    rw (c.in_ok-table.ensures, c.from_parts.ensures)
    (record { read = c.in_ok-parts.ensures.parts; closed = search rules })
