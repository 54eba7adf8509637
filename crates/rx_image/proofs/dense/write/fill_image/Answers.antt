use Rattle.rx_spec.proofs.Prelude.{sym, ◌∙◌}
use Rattle.rx_image_parts.proofs.Behind.{filled}
use Rattle.rx_image.proofs.dense.write.fill_image.Goals as goal

pub returns : goal.returns
returns g c = filled c.put_image.ensures.put (c.requires ∙ sym c.put_image.ensures.place)
