use Rattle.rx_spec.proofs.Prelude.{rules}
use Rattle.rx_meaning.proofs.ServedSearches.{join_of_copies, iterate_of_copies}
use Rattle.rx_meaning.proofs.tables.join_of_copies.Goals as goal

pub returns : goal.returns
returns c = search (rules, join_of_copies, iterate_of_copies)
