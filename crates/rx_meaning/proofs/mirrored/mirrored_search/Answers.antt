use Rattle.rx_meaning.proofs.ReverseSearch.{mirrored_search_holds}
use Rattle.rx_meaning.proofs.mirrored.mirrored_search.Goals as goal

pub returns : goal.returns
returns c = mirrored_search_holds
