use Rattle.rx_spec.proofs.Prelude.{rules}
use Rattle.rx_laws.proofs.Computing.{computing}
use Rattle.rx_laws.proofs.examples.classes.Goals as goal

pub returns : goal.returns
unfolding computing
returns c = search rules
