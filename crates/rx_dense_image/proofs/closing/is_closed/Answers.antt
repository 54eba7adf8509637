use Rattle.rx_spec.proofs.Prelude.{arith, common_steps, and_parts}
use Rattle.rx_dense_image.proofs.closing.is_closed.Goals as goal

pub accels_stand-requires-clause-special : goal.accels_stand-requires-clause-special
accels_stand-requires-clause-special c = grind (arith, common_steps, and_parts)
