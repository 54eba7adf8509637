use Rattle.rx_spec.proofs.Prelude.{arith, common_steps}
use Rattle.rx_stepper.proofs.closures.Closures.add_patterns.Goals as goal

pub returns : goal.returns
returns c = grind (arith, common_steps)
