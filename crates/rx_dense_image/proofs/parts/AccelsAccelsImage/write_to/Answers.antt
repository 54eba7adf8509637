use Rattle.rx_spec.proofs.Prelude.{arith}
use Rattle.rx_image_parts.proofs.Behind.{written}
use Rattle.rx_dense_image.proofs.ImageLengths.{length-accels}
use Rattle.rx_dense_image.proofs.parts.AccelsAccelsImage.write_to.Goals as goal

pub put_accels-requires : goal.put_accels-requires
put_accels-requires g c = omega (arith, length-accels g.E.Endian.order c.args.self.now)

pub returns : goal.returns
returns g c = written c.put_accels.ensures.put
