use Rattle.rx_spec.proofs.Prelude.{arith, common_steps}
use Rattle.rx_lemmas.proofs.Ends.{ends_lie}
use Rattle.rx_laws.proofs.laws.ends_lie.Goals as goal

pub returns : goal.returns
returns c = grind (arith, common_steps, ends_lie)
