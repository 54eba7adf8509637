use Rattle.rx_refine.proofs.Prelude.{get_or, ℕ, ◌<◌, ◌≡◌}
use Rattle.rx_refine.proofs.numbers.clear.Given as goal

abbrev pub invariant-loop-number : goal.invariant-loop-number
invariant-loop-number l = (k : ℕ) → k < l.number-index → get_or l.numbers k 0 ≡ 0
