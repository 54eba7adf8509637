use Rattle.rx_spec.proofs.Prelude.{arith, common_steps}
use Rattle.rx_lemmas.proofs.Facts.{facts_decide}
use Rattle.rx_base.proofs.looks.LookMatcher.matches.Goals as goal

pub returns : goal.returns
returns c = grind (arith, common_steps, facts_decide)
