-- The special ids of a dense table that can be read are ids of rows.
use Rattle.rx_spec.proofs.Prelude.{◌≡◌, ℕ, ◌*◌, true, sym, ◌∙◌, subst, arith}
use Rattle.rx_dense.specs.Layouts.{IsRowId, Layout, is_row_id, stride}
use Rattle.rx_dense.proofs.Rows.{IsRowId-row}
use Rattle.rx_dense_image.specs.Images.{IsWhole}
use Rattle.rx_dense_image.proofs.AccelRows.{row_id_of}
use Rattle.rx_dense_image.proofs.ClosedFacts.{closed}
use Rattle.rx_sparse.specs.Sparse.{AreSpecialRows}

pub special_rows : (l : Layout) → IsWhole l → AreSpecialRows l
special_rows l whole =
    let facts = closed l whole.closed in
    let are = facts.special in
    let passed : (id : ℕ) → is_row_id l id ≡ true → IsRowId l id = row_id_of l whole.read.rows in
    let one : 1 * stride l ≡ stride l = omega arith in
    record {
      max = passed l.special.max are.max;
      quit = subst (IsRowId l) (one ∙ sym are.quit) (IsRowId-row l 1 (omega arith));
      min_match = passed l.special.min_match are.min_match;
      max_match = passed l.special.max_match are.max_match;
      min_accel = passed l.special.min_accel are.min_accel;
      max_accel = passed l.special.max_accel are.max_accel;
      min_start = passed l.special.min_start are.min_start;
      max_start = passed l.special.max_start are.max_start;
    }
