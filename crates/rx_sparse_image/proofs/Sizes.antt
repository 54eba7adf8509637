-- How many bytes the parts of an image have.
use Rattle.rx_spec.proofs.Prelude.{common_steps, [], ◌≡◌, ℕ, ◌+◌, ◌≤◌, List, ◌∷◌, ◌++◌, length, refl, arith}
use Rattle.rx_spec.proofs.Prelude.{length-append}
use Rattle.rx_wire.specs.declared.order.Order.{Order}
use Rattle.rx_image_parts.specs.Heads.{head_text}
use Rattle.rx_image_parts.specs.StartTables.{start_table_text}
use Rattle.rx_image_parts.specs.QuitBytes.{quit_text}
use Rattle.rx_image_parts.specs.SpecialIds.{special_text}
use Rattle.rx_image_parts.proofs.PartLengths.{length-head, length-quit, length-special, length-start_table}
use Rattle.rx_sparse.specs.Layouts.{IsShaped, Layout}
use Rattle.rx_sparse.specs.Rows.{Row, rows_len}
use Rattle.rx_sparse.proofs.RowTexts.{length-rows}
use Rattle.rx_sparse_image.specs.Images.{image_len, row_bytes_text, sparse_label, start_table_of, text}

-- each row has a byte
pub rows_few : (rows : List Row) → length rows ≤ rows_len rows
unfolding rows_len
rows_few [] = omega arith
rows_few (row ∷ rows) = omega (arith, rows_few rows)

length-row_bytes : (order : Order) (l : Layout) → length l.classes ≡ 256
    → length (row_bytes_text order l) ≡ 268 + rows_len l.rows
length-row_bytes order l classes = grind (arith, common_steps, length-rows)

pub length-text : (order : Order) (l : Layout) → IsShaped l → length (text order l) ≡ image_len l
unfolding text
length-text order l shaped =
    let t3 : List ℕ = special_text order l.special ++ quit_text order l.quit in
    let t2 : List ℕ = start_table_text order (start_table_of l) ++ t3 in
    omega (
      arith,
      length-append (head_text order sparse_label l.flags) (row_bytes_text order l ++ t2),
      length-head order sparse_label l.flags refl,
      length-append (row_bytes_text order l) t2,
      length-row_bytes order l shaped.rows.classes.count,
      length-append (start_table_text order (start_table_of l)) t3,
      length-start_table order (start_table_of l) shaped.starts.contexts,
      length-append (special_text order l.special) (quit_text order l.quit),
      length-special order l.special,
      length-quit order l.quit,
    )
