use Rattle.rx_spec.proofs.Prelude.{arith, [], append_assoc, common_steps}
use Rattle.rx_main.proofs.Generated.{haystack_more}
use Rattle.rx_main.proofs.generate.haystack.Goals as goal

pub rounds-preserved : goal.rounds-preserved
rounds-preserved c = grind (arith, common_steps, append_assoc, haystack_more)
