use Rattle.rx_spec.proofs.Prelude.{◌≡◌, ℕ, ◌<◌, get_or}
use Rattle.rx_stepper.proofs.stamps.clear.Given as goal

abbrev pub invariant-loop-number : goal.invariant-loop-number
invariant-loop-number l = (k : ℕ) → k < l.number-index → get_or l.numbers k 0 ≡ 0
