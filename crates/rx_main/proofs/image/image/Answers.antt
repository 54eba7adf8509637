use Rattle.rx_spec.proofs.Prelude.{arith, common_steps}
use Rattle.rx_main.proofs.image.image.Goals as goal

pub returns-in-TurnedDown : goal.returns-in-TurnedDown
returns-in-TurnedDown c = grind (arith, common_steps)

pub returns-in-Script : goal.returns-in-Script
returns-in-Script c = grind (arith, common_steps)
