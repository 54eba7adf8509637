use Rattle.rx_spec.proofs.Prelude.{arith, common_steps}
use Rattle.rx_main.proofs.Refusals.{kind_told}
use Rattle.rx_main.proofs.image.image_reply.Goals as goal

pub returns-in-Ok : goal.returns-in-Ok
returns-in-Ok c = grind (arith, common_steps)

pub returns-in-Err : goal.returns-in-Err
returns-in-Err c = grind (arith, common_steps, kind_told)
