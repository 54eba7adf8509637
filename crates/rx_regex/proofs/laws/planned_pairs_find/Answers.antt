use Rattle.rx_regex.proofs.Searches.{pairs_agree, pairs_end, pairs_find}
use Rattle.rx_regex.proofs.laws.planned_pairs_find.Goals as goal

pub returns-clause-found : goal.returns-clause-found
returns-clause-found c = pairs_find

pub returns-clause-end : goal.returns-clause-end
returns-clause-end c = pairs_end

pub returns-clause-agree : goal.returns-clause-agree
returns-clause-agree c = pairs_agree
