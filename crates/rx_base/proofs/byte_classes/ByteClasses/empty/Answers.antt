use Rattle.rx_base.proofs.Classes.{AreClasses-zeros, zero_at}
use Rattle.rx_base.proofs.byte_classes.ByteClasses.empty.Goals as goal

pub invariant_of-result : goal.invariant_of-result
invariant_of-result c = AreClasses-zeros

pub returns : goal.returns
returns c = zero_at
