use Rattle.rx_meaning.proofs.JoinedSearches.{joined_search_holds}
use Rattle.rx_meaning.proofs.joined.joined_search.Goals as goal

pub returns : goal.returns
returns c = joined_search_holds
