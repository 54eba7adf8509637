use Rattle.rx_spec.proofs.Prelude.{rules}
use Rattle.rx_laws.proofs.SearchesLaws.{half_of_overlapping, half_of_overlapping_in_build}
use Rattle.rx_laws.proofs.laws.half_searches.Goals as goal

pub returns : goal.returns
returns c = search (rules, half_of_overlapping, half_of_overlapping_in_build)
