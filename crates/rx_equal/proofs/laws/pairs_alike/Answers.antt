use Rattle.rx_equal.proofs.JoinedSearches.{join_alike, iterate_alike}
use Rattle.rx_equal.proofs.laws.pairs_alike.Goals as goal

pub returns-clause-join : goal.returns-clause-join
returns-clause-join c = join_alike

pub returns-clause-iterate : goal.returns-clause-iterate
returns-clause-iterate c = iterate_alike
