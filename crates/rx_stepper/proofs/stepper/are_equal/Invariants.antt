use Rattle.rx_spec.proofs.Prelude.{◌≡◌, ◌<◌, ℕ, get_or}
use Rattle.rx_stepper.proofs.stepper.are_equal.Given as goal

abbrev pub invariant-loop-i : goal.invariant-loop-i
invariant-loop-i l = (k : ℕ) → k < l.i → get_or l.rows k 0 ≡ get_or l.others k 0
