use Rattle.rx_spec.proofs.Prelude.{rules}
use Rattle.rx_laws.proofs.StatesLaws.{firsts_members, firsts_distinct, firsts_order, firsts_itself}
use Rattle.rx_laws.proofs.laws.first_occurrences.Goals as goal

pub returns : goal.returns
returns c = search (rules, firsts_members, firsts_distinct, firsts_order, firsts_itself)
