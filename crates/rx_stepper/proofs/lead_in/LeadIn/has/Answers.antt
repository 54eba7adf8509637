use Rattle.rx_spec.proofs.Prelude.{common_steps, arith}
use Rattle.rx_stepper.proofs.LeadPlaces.{has_place}
use Rattle.rx_stepper.proofs.lead_in.LeadIn.has.Goals as goal

pub returns : goal.returns
returns c = grind (arith, common_steps, has_place)
