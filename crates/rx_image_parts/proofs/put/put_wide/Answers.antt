use Rattle.rx_spec.proofs.Prelude.{arith, common_steps}
use Rattle.rx_image_parts.proofs.put.put_wide.Goals as goal

pub returns-clause-put : goal.returns-clause-put
returns-clause-put g c = grind (arith, common_steps)
