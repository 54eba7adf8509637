-- What is true of a layout that was read, and that its rows are read again in either order.
use Rattle.rx_spec.proofs.Prelude.{common_steps, List, subst, sym, arith}
use Rattle.rx_wire.specs.declared.order.Order.{Order}
use Rattle.rx_sparse.specs.Rows.{Row, rows_in}
use Rattle.rx_sparse.proofs.RowPlaces.{length-rows_in}
use Rattle.rx_sparse_image.specs.declared.read.Image.{Image}
use Rattle.rx_sparse_image.specs.declared.rows.Bounds.{Bounds}
use Rattle.rx_sparse_image.specs.Images.{bounds_of}
use Rattle.rx_sparse_image.specs.Reading.{IsReadImage, image_layout, seen_image}
use Rattle.rx_sparse_image.specs.Tested.{AreTestedRows, IsRead}

pub are_tested_in : (order : Order) {b : Bounds} {rows : List Row} → AreTestedRows b rows
    → AreTestedRows (record b { order = order }) rows
are_tested_in order are = record { each = λ i h. (grind (arith, common_steps)); len = are.len }

-- a layout that was read
pub is_read : (i : Image) → IsReadImage i
    → AreTestedRows (bounds_of (seen_image i)) (rows_in i.parts.order i.parts.state_len i.rows.now)
    → IsRead (image_layout i)
is_read i is are =
    let rows : List Row = rows_in i.parts.order i.parts.state_len i.rows.now in
    let bytes = is.bytes in
    let len = are.len in
    let b : Bounds = record (bounds_of (seen_image i)) { order = Order.Little } in
    record {
      few_rows = omega (arith, length-rows_in i.parts.order i.parts.state_len i.rows.now);
      few_patterns = bytes.few_patterns;
      classes = bytes.classes;
      rows = subst (λ n. AreTestedRows (record b { len = n }) rows) (sym len) (are_tested_in Order.Little are);
      table = is.table;
      special = is.special;
      within = (let most = is.within in omega arith);
      quit = is.quit;
    }
