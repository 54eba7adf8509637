use Rattle.rx_spec.proofs.Prelude.{◌≡◌, length}
use Rattle.rx_sparse.specs.Rows.{offsets, rows_in}
use Rattle.rx_sparse_image.specs.RowSets.{Marks}
use Rattle.rx_sparse_image.proofs.PassedRows.{ArePassed}
use Rattle.rx_sparse_image.proofs.rows.walk.Given as goal

abbrev pub invariant-rows : goal.invariant-rows
invariant-rows l = record {
  passed : ArePassed l.bounds l.bytes l.count l.rest;
  size : length l.rows.begins.items ≡ length l.bytes;
  marks : Marks l.rows (offsets (rows_in l.bounds.order l.count l.bytes));
}

abbrev pub decreases-rows : goal.decreases-rows
decreases-rows l = length l.rest
