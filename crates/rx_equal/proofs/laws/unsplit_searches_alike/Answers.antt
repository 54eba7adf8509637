use Rattle.rx_equal.proofs.JoinedSearches.{half_unsplit_alike, overlapping_unsplit_alike}
use Rattle.rx_equal.proofs.laws.unsplit_searches_alike.Goals as goal

pub returns-clause-half : goal.returns-clause-half
returns-clause-half c = half_unsplit_alike

pub returns-clause-overlapping : goal.returns-clause-overlapping
returns-clause-overlapping c = overlapping_unsplit_alike
