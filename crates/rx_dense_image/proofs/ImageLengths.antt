-- How many bytes the parts of an image have.
use Rattle.rx_spec.proofs.Prelude.{common_steps, ◌≡◌, ℕ, ◌+◌, ◌*◌, List, ◌++◌, length, refl, arith, flat_map}
use Rattle.rx_spec.proofs.Prelude.{length-append}
use Rattle.rx_wire.specs.declared.order.Order.{Order}
use Rattle.rx_wire.proofs.Words.{length-parts, length-words}
use Rattle.rx_dense.specs.Layouts.{Layout}
use Rattle.rx_image_parts.specs.Heads.{head_text}
use Rattle.rx_dense_image.specs.Heads.{dense_label}
use Rattle.rx_dense_image.specs.Rows.{Rows, rows_of, rows_text}
use Rattle.rx_image_parts.specs.StartTables.{start_table_text}
use Rattle.rx_dense_image.specs.PatternLists.{PatternLists, pattern_lists_text}
use Rattle.rx_dense_image.specs.Marks.{Marks, accel_text, accels_text, marks_text}
use Rattle.rx_dense_image.specs.Images.{image_len, marks_of, pattern_lists_of, start_table_of, text}
use Rattle.rx_image_parts.proofs.PartLengths.{length-head, length-start_table}

length-rows : (order : Order) (rows : Rows) → length rows.classes ≡ 256
    → length (rows_text order rows) ≡ 264 + 4 * length rows.words
length-rows order rows classes = grind (arith, common_steps, length-words)

length-pattern_lists : (order : Order) (lists : PatternLists)
    → length (pattern_lists_text order lists) ≡ 12 + 4 * length lists.slices + 4 * length lists.pattern_ids
length-pattern_lists order lists = grind (arith, common_steps, length-words)

pub length-accel : (needles : List ℕ) → length (accel_text needles) ≡ 8
length-accel needles = grind (arith, common_steps)

pub length-each : (accels : List (List ℕ)) → length (flat_map accel_text accels) ≡ 8 * length accels
length-each accels = length-parts accel_text 8 length-accel accels

pub length-accels : (order : Order) (accels : List (List ℕ)) → length (accels_text order accels) ≡ 4 + 8 * length accels
length-accels order accels = grind (arith, common_steps, length-each)

length-marks : (order : Order) (marks : Marks) → length (marks_text order marks) ≡ 68 + 8 * length marks.accels
length-marks order marks = grind (arith, common_steps, length-each)

pub length-text : (order : Order) (l : Layout) → length l.classes ≡ 256 → length l.contexts ≡ 256
    → length (text order l) ≡ image_len l
unfolding text
length-text order l classes contexts =
    let t4 : List ℕ = marks_text order (marks_of l) in
    let t3 : List ℕ = pattern_lists_text order (pattern_lists_of l) ++ t4 in
    let t2 : List ℕ = start_table_text order (start_table_of l) ++ t3 in
    let t1 : List ℕ = rows_text order (rows_of l) ++ t2 in
    omega (
      arith,
      length-append (head_text order dense_label l.flags) t1,
      length-head order dense_label l.flags refl,
      length-append (rows_text order (rows_of l)) t2,
      length-rows order (rows_of l) classes,
      length-append (start_table_text order (start_table_of l)) t3,
      length-start_table order (start_table_of l) contexts,
      length-append (pattern_lists_text order (pattern_lists_of l)) t4,
      length-pattern_lists order (pattern_lists_of l),
      length-marks order (marks_of l),
    )
