use Rattle.rx_spec.proofs.Prelude.{arith, common_steps}
use Rattle.rx_stepper.proofs.lead_steps.LeadSteps.of_contexts.Goals as goal

pub loop-context-preserved : goal.loop-context-preserved
loop-context-preserved c = grind (arith, common_steps)
