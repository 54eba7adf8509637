use Rattle.rx_meaning.proofs.JoinedSearches.{joined_end_holds}
use Rattle.rx_meaning.proofs.joined.joined_end.Goals as goal

pub returns : goal.returns
returns c = joined_end_holds
