use Rattle.rx_meaning.proofs.ReverseSearch.{start_of_end_holds}
use Rattle.rx_meaning.proofs.mirrored.start_of_end.Goals as goal

pub returns : goal.returns
returns c = start_of_end_holds
