use Rattle.rx_spec.proofs.Prelude.{◌≡◌, ℕ, ◌<◌, true, drop, get_or, take}
use Rattle.rx_sparse.specs.Layouts.{ids_of}
use Rattle.rx_sparse.specs.Rows.{no_row, rows_len}
use Rattle.rx_sparse_image.specs.Closing.{row_stands}
use Rattle.rx_sparse_image.specs.Reading.{image_layout}
use Rattle.rx_sparse_image.specs.RowSets.{Marks}
use Rattle.rx_sparse_image.proofs.closing.each_row.Given as goal

abbrev pub invariant-loop : goal.invariant-loop
invariant-loop l = record {
  rest : l.rest ≡ drop (rows_len (take l.counter (image_layout l.image).rows)) l.image.rows.now;
  passed : Marks l.rows (ids_of (image_layout l.image))
      → (k : ℕ) → k < l.counter
      → row_stands (image_layout l.image) (rows_len (take k (image_layout l.image).rows))
      (get_or (image_layout l.image).rows k no_row)
      ≡ true;
}
