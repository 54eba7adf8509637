use Rattle.rx_spec.proofs.Prelude.{arith}
use Rattle.rx_dense_image.proofs.ImageLengths.{length-accels}
use Rattle.rx_dense_image.proofs.parts.AccelsAccelsImage.write_to_len.Goals as goal

pub returns : goal.returns
returns c = λ order. omega (arith, length-accels order c.args.self.now)
