use Rattle.rx_spec.proofs.Prelude.{rules}
use Rattle.rx_laws.proofs.Computing.{computing}
use Rattle.rx_laws.proofs.examples.rows.Goals as goal

pub returns : goal.returns
unfolding computing
returns c = search rules
