use Rattle.rx_spec.proofs.Prelude.{◌≡◌, ◌<◌, ℕ, true, Some, slice_get}
use Rattle.rx_stepper.proofs.Prelude.{is_met}
use Rattle.rx_stepper.proofs.lead_in.LeadIn.met_len.Given as goal

abbrev pub invariant-loop-place : goal.invariant-loop-place
invariant-loop-place l =
    (place q : ℕ) → place < l.place → slice_get l.self.rows.items place ≡ Some q
    → is_met l.closures.stamps.stamps.items l.closures.stamps.now q ≡ true
