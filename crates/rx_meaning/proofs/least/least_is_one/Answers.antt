use Rattle.rx_meaning.proofs.Reduced.{least_is_one_holds}
use Rattle.rx_meaning.proofs.least.least_is_one.Goals as goal

pub returns : goal.returns
returns c = least_is_one_holds
