use Rattle.rx_spec.proofs.Prelude.{◌≡◌, ℕ, ◌<◌, true}
use Rattle.rx_dense.specs.Parts.{layout_of}
use Rattle.rx_dense_image.specs.Closing.{is_list}
use Rattle.rx_dense_image.proofs.closing.are_lists.Given as goal

abbrev pub invariant-loop-i : goal.invariant-loop-i
invariant-loop-i l = (k : ℕ) → k < l.i → is_list (layout_of l.parts) k ≡ true
