use Rattle.rx_spec.proofs.Prelude.{rules}
use Rattle.rx_meaning.proofs.Reduced.{leastness_holds, reduced_is_least}
use Rattle.rx_meaning.proofs.least.leastness.Goals as goal

pub returns : goal.returns
returns c = search (rules, leastness_holds, reduced_is_least)
