use Rattle.rx_spec.proofs.Prelude.{arith, common_steps}
use Rattle.rx_base.proofs.LookBits.{len-ones}
use Rattle.rx_base.proofs.looks.LookSet.len.Goals as goal

pub returns : goal.returns
returns c = grind (arith, common_steps, len-ones)
