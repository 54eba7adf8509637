use Rattle.rx_spec.proofs.Prelude.{common_steps, arith}
use Rattle.rx_stepper.proofs.KeyLaws.{once_apart}
use Rattle.rx_stepper.proofs.LeadPlaces.{all_placed, at_or, placed_more}
use Rattle.rx_stepper.proofs.lead_in.places_of.Goals as goal

pub loop-place-init : goal.loop-place-init
loop-place-init c = grind (arith, common_steps)

pub loop-place-preserved : goal.loop-place-preserved
loop-place-preserved c = grind (arith, common_steps, placed_more, once_apart, at_or)

pub returns : goal.returns
returns c = all_placed (omega arith) c.loop-place.invariant.placed
