use Rattle.rx_spec.proofs.Prelude.{arith, common_steps}
use Rattle.rx_main.proofs.Asking.{asks}
use Rattle.rx_main.proofs.each.each.Goals as goal

pub returns-in-TurnedDown : goal.returns-in-TurnedDown
returns-in-TurnedDown c = grind (arith, common_steps)

pub solve-requires : goal.solve-requires
solve-requires c = grind (arith, common_steps, asks)

pub returns-in-Script : goal.returns-in-Script
returns-in-Script c = grind (arith, common_steps)
