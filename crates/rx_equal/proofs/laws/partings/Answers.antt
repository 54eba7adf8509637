use Rattle.rx_spec.proofs.Prelude.{rules}
use Rattle.rx_equal.proofs.PartingsLaws.{nothing_parts_itself, nothing_parts_turned, parting_turned}
use Rattle.rx_equal.proofs.laws.partings.Goals as goal

pub returns : goal.returns
returns c = search (rules, nothing_parts_itself, nothing_parts_turned, parting_turned)
