use Rattle.rx_spec.proofs.Prelude.{◌≡◌, ℕ, ◌*◌, ◌<◌, true}
use Rattle.rx_dense.specs.Layouts.{stride}
use Rattle.rx_dense.specs.Parts.{layout_of}
use Rattle.rx_image_parts.specs.SpecialIds.{is_named}
use Rattle.rx_dense_image.proofs.closing.are_named.Given as goal

abbrev pub invariant-loop-row : goal.invariant-loop-row
invariant-loop-row l = (k : ℕ) → k < l.row → is_named l.parts.special (k * stride (layout_of l.parts)) ≡ true
