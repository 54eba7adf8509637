use Rattle.rx_spec.proofs.Prelude.{arith, common_steps}
use Rattle.rx_powerset.proofs.StateOrder.{told_equal, equal_told}
use Rattle.rx_powerset.proofs.laws.equal.Goals as goal

pub returns : goal.returns
returns c = grind (arith, common_steps, told_equal, equal_told)
