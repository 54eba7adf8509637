use Rattle.rx_spec.proofs.Prelude.{common_steps, arith}
use Rattle.rx_stepper.proofs.stamps.clear.Goals as goal

pub returns-clause-zeros : goal.returns-clause-zeros
returns-clause-zeros c = grind (arith, common_steps)
