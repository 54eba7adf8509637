use Rattle.rx_spec.proofs.Prelude.{common_steps, arith}
use Rattle.rx_stepper.proofs.ReadColumns.{column_pushed, column_passed}
use Rattle.rx_stepper.proofs.reading.push_columns.Goals as goal

pub loop-column-preserved : goal.loop-column-preserved
loop-column-preserved c = grind (arith, common_steps, column_pushed, column_passed)
