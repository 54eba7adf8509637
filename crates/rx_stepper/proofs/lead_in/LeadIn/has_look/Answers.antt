use Rattle.rx_spec.proofs.Prelude.{arith, common_steps}
use Rattle.rx_stepper.proofs.LedSteps.{any_led}
use Rattle.rx_stepper.proofs.lead_in.LeadIn.has_look.Goals as goal

pub returns-then-self : goal.returns-then-self
returns-then-self c = grind (arith, common_steps, any_led)

pub returns-else-is_led : goal.returns-else-is_led
returns-else-is_led c = grind (arith, common_steps, any_led)
