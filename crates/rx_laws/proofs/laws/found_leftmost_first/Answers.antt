use Rattle.rx_spec.proofs.Prelude.{rules}
use Rattle.rx_laws.proofs.FoundLaws.{found_candidate, found_leftmost, found_preferred, found_nothing, found_done}
use Rattle.rx_laws.proofs.laws.found_leftmost_first.Goals as goal

pub returns : goal.returns
returns c = search (rules, found_candidate, found_leftmost, found_preferred, found_nothing, found_done)
