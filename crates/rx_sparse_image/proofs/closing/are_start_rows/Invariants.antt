use Rattle.rx_spec.proofs.Prelude.{◌≡◌, ℕ, ◌<◌, true}
use Rattle.rx_sparse.specs.Layouts.{ids_of}
use Rattle.rx_sparse.specs.Rows.{word_at}
use Rattle.rx_sparse_image.specs.Closing.{is_start_row}
use Rattle.rx_sparse_image.specs.Reading.{image_layout}
use Rattle.rx_sparse_image.specs.RowSets.{Marks}
use Rattle.rx_sparse_image.proofs.closing.are_start_rows.Given as goal

abbrev pub invariant-loop-i : goal.invariant-loop-i
invariant-loop-i l =
    Marks l.rows (ids_of (image_layout l.image))
    → (k : ℕ) → k < l.i
    → is_start_row (image_layout l.image) (word_at l.image.parts.order l.image.starts.now k) ≡ true
