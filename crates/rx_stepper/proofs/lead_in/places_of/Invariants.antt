use Rattle.rx_spec.proofs.Prelude.{◌≡◌, length}
use Rattle.rx_stepper.proofs.LeadPlaces.{Placed}
use Rattle.rx_stepper.proofs.lead_in.places_of.Given as goal

abbrev pub invariant-loop-place : goal.invariant-loop-place
invariant-loop-place l = record {
  len : length l.places.items ≡ l.count;
  placed : Placed l.rows l.places.items l.place;
}
