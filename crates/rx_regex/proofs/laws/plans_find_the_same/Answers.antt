use Rattle.rx_regex.proofs.Searches.{same_found}
use Rattle.rx_regex.proofs.laws.plans_find_the_same.Goals as goal

pub returns : goal.returns
returns c = same_found
