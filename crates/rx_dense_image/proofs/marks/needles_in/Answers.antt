use Rattle.rx_spec.proofs.Prelude.{◌*◌, ap, ◌∙◌}
use Rattle.rx_dense_image.specs.Marks.{needles_of}
use Rattle.rx_dense_image.proofs.Accelerators.{all_from}
use Rattle.rx_dense_image.proofs.marks.needles_in.Goals as goal

pub returns : goal.returns
returns c = c.needles_of.ensures ∙ ap needles_of (all_from c.args.bytes.now (8 * c.args.i))
