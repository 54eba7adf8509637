use Rattle.rx_spec.proofs.Prelude.{common_steps, arith}
use Rattle.rx_image_parts.proofs.Behind.{written}
use Rattle.rx_image.proofs.sparse.write.write_image.Goals as goal

pub returns-then-dst-image_len : goal.returns-then-dst-image_len
returns-then-dst-image_len g c = grind (arith, common_steps)

pub returns : goal.returns
returns g c = written c.put_image.ensures.put
