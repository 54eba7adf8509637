use Rattle.rx_spec.proofs.Prelude.{rules}
use Rattle.rx_meaning.proofs.ServedSearches.{half_unsplit_of_table, overlapping_unsplit_of_table}
use Rattle.rx_meaning.proofs.tables.unsplit_of_table.Goals as goal

pub returns : goal.returns
returns c = search (rules, half_unsplit_of_table, overlapping_unsplit_of_table)
