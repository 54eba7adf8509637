use Rattle.rx_spec.proofs.Prelude.{◌≡◌, ℕ, ◌<◌, true}
use Rattle.rx_dense.specs.Parts.{layout_of}
use Rattle.rx_dense_image.specs.Closing.{has_needles}
use Rattle.rx_dense_image.proofs.closing.accels_stand.Given as goal

abbrev pub invariant-loop-i : goal.invariant-loop-i
invariant-loop-i l = (k : ℕ) → k < l.i → has_needles (layout_of l.parts) k ≡ true
