use Rattle.rx_spec.proofs.Prelude.{arith, common_steps}
use Rattle.rx_stepper.proofs.steps.ColumnSteps.new.Goals as goal

pub loop-group-preserved : goal.loop-group-preserved
loop-group-preserved c = grind (arith, common_steps)

pub loop-column-preserved : goal.loop-column-preserved
loop-column-preserved c = grind (arith, common_steps)
