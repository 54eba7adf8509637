use Rattle.rx_spec.proofs.Prelude.{rules}
use Rattle.rx_meaning.proofs.ServedSearches.{found_by_tables, end_by_tables, tables_agree}
use Rattle.rx_meaning.proofs.tables.plan_by_tables.Goals as goal

pub returns : goal.returns
returns c = search (rules, found_by_tables, end_by_tables, tables_agree)
