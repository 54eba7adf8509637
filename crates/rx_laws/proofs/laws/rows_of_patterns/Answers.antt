use Rattle.rx_spec.proofs.Prelude.{rules, patterns_from, start_of_all}
use Rattle.rx_laws.proofs.RowsLaws.{patterns_counted, start_of_more}
use Rattle.rx_laws.proofs.laws.rows_of_patterns.Goals as goal

pub returns : goal.returns
unfolding patterns_from start_of_all
returns c = search (rules, patterns_counted, start_of_more)
