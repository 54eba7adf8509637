use Rattle.rx_spec.proofs.Prelude.{rules, compile}
use Rattle.rx_laws.proofs.laws.rows_by_form.Goals as goal

pub returns : goal.returns
unfolding compile
returns c = search rules
