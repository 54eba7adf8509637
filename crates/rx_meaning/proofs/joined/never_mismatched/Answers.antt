use Rattle.rx_meaning.proofs.JoinedSearches.{never_mismatched_holds}
use Rattle.rx_meaning.proofs.joined.never_mismatched.Goals as goal

pub returns : goal.returns
returns c = never_mismatched_holds
