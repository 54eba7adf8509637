use Rattle.rx_spec.proofs.Prelude.{arith, common_steps}
use Rattle.rx_base.proofs.ByteSets.{contains-or}
use Rattle.rx_base.proofs.byte_classes.ByteClassSet.add_set.Goals as goal

pub returns : goal.returns
returns c b below = grind (arith, common_steps, contains-or)
