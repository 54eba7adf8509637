use Rattle.rx_spec.proofs.Prelude.{rules}
use Rattle.rx_meaning.proofs.ServedSearches.{join_of_tables, iterate_of_tables}
use Rattle.rx_meaning.proofs.tables.join_of_tables.Goals as goal

pub returns : goal.returns
returns c = search (rules, join_of_tables, iterate_of_tables)
