use Rattle.rx_spec.proofs.Prelude.{arith, common_steps}
use Rattle.rx_stepper.proofs.EmptyLists.{empty_set}
use Rattle.rx_stepper.proofs.steps.clear_lists.Goals as goal

pub loop-list-preserved : goal.loop-list-preserved
loop-list-preserved c = grind (arith, common_steps, empty_set)
