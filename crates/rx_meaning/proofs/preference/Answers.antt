use Rattle.rx_meaning.proofs.ForwardSearch.{preference_holds}
use Rattle.rx_meaning.proofs.preference.Goals as goal

pub returns : goal.returns
returns c = preference_holds
