use Rattle.rx_spec.proofs.Prelude.{rules, rows_count}
use Rattle.rx_lemmas.proofs.Rows.{rows_counted}
use Rattle.rx_laws.proofs.laws.rows_counted.Goals as goal

pub returns : goal.returns
unfolding rows_count
returns c = search (rules, rows_counted)
