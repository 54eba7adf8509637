-- A whole image is read again, in either order and whatever follows, and its length is told, where its rows are read
-- again.
use Rattle.rx_spec.proofs.Prelude.{common_steps, ◌≡◌, ℕ, ◌-◌, ◌<◌, ◌≤◌, true, List, ◌++◌, length, slice_index, Ok, refl}
use Rattle.rx_spec.proofs.Prelude.{sym, ap, subst, ◌∙◌, append_assoc, arith, rules, w32, le-leb, and_from}
use Rattle.rx_spec.proofs.Prelude.{length-append, max_id}
use Rattle.rx_wire.specs.declared.order.Order.{Order}
use Rattle.rx_wire.specs.Kinds.{Reads}
use Rattle.rx_wire.specs.Fields.{bytes_at, field}
use Rattle.rx_wire.specs.Heads.{IsLabel}
use Rattle.rx_wire.proofs.Fields.{bytes_again, u32_again}
use Rattle.rx_image_parts.specs.Heads.{head_at, head_text}
use Rattle.rx_image_parts.specs.StartTables.{start_table_at, start_table_text}
use Rattle.rx_image_parts.specs.QuitBytes.{quit_at, quit_text}
use Rattle.rx_image_parts.specs.SpecialIds.{special_at, special_text}
use Rattle.rx_image_parts.proofs.SpecialAgain.{AreSpecialIds, quit_again, special_again}
use Rattle.rx_image_parts.proofs.ReadAgain.{head_again, words_below, regrouped}
use Rattle.rx_image_parts.proofs.ClassTests.{classes_pass}
use Rattle.rx_image_parts.proofs.TablesAgain.{start_table_again}
use Rattle.rx_sparse.specs.Rows.{Row, rows_len, rows_text}
use Rattle.rx_sparse.specs.Layouts.{IsShaped, Layout}
use Rattle.rx_sparse.proofs.RowPlaces.{id_small}
use Rattle.rx_sparse.proofs.RowTexts.{length-rows}
use Rattle.rx_sparse_image.specs.declared.rows.Bounds.{Bounds}
use Rattle.rx_sparse_image.specs.RowBytes.{RowBytes, row_bytes_at, settings_at}
use Rattle.rx_sparse_image.specs.Walks.{rows_at}
use Rattle.rx_sparse_image.specs.Closing.{is_closed}
use Rattle.rx_sparse_image.specs.Images.{Parts, bounds_of, layout_of, parts_at, parts_of, reads, row_bytes_text}
use Rattle.rx_sparse_image.specs.Images.{sparse_label, start_table_of, stored_of, text}
use Rattle.rx_sparse_image.specs.Tested.{AreTestedRows, IsRead, IsWhole, bounds_in}
use Rattle.rx_sparse_image.proofs.ClosedRows.{AreClosed, closed, quit_is}
use Rattle.rx_sparse_image.proofs.ShapedImages.{shaped}
use Rattle.rx_sparse_image.proofs.ReadLayouts.{are_tested_in}
use Rattle.rx_sparse_image.proofs.Sizes.{rows_few}
use Rattle.rx_sparse_image.proofs.RowsAgain.{rows_read}

is_label : IsLabel sparse_label
is_label = record { short = omega arith; text = search rules }

-- ---- special ids

special_ids : (l : Layout) → IsShaped l → AreClosed l → AreSpecialIds l.special
special_ids l shape facts =
    let h = facts.special in
    record {
      max = id_small l shape l.special.max h.max;
      quit = id_small l shape l.special.quit (quit_is l facts);
      min_match = id_small l shape l.special.min_match h.min_match;
      max_match = id_small l shape l.special.max_match h.max_match;
      min_accel = id_small l shape l.special.min_accel h.min_accel;
      max_accel = id_small l shape l.special.max_accel h.max_accel;
      min_start = id_small l shape l.special.min_start h.min_start;
      max_start = id_small l shape l.special.max_start h.max_start;
    }

-- ---- the bytes of the rows

abbrev bytes_of : Order → Layout → RowBytes
bytes_of order l = record {
  state_len = length l.rows;
  pattern_len = l.pattern_len;
  classes = l.classes;
  rows = rows_text order l.rows;
}

settings_again : (order : Order) (l : Layout) → IsRead l
    → Reads (settings_at order) (field order w32 l.pattern_len ++ l.classes) (l.pattern_len, l.classes)
unfolding settings_at
settings_again order l read rest = grind (arith, common_steps, le-leb, and_from, classes_pass, bytes_again, u32_again)

row_bytes_again : (order : Order) (l : Layout) → IsRead l → rows_len l.rows ≤ max_id
    → Reads (row_bytes_at order) (row_bytes_text order l) (bytes_of order l)
unfolding row_bytes_at
row_bytes_again order l read few rest =
    let rows : List ℕ = rows_text order l.rows in
    let settings : List ℕ = field order w32 l.pattern_len ++ l.classes in
    let t2 : List ℕ = field order w32 (rows_len l.rows) ++ (rows ++ rest) in
    let regrouped : row_bytes_text order l ++ rest ≡ field order w32 (length l.rows) ++ (settings ++ t2) =
    simp append_assoc refl in
    let front : bytes_at (rows_len l.rows) (rows ++ rest) ≡ Ok (rows, rest) =
    subst (λ (n : ℕ). bytes_at n (rows ++ rest) ≡ Ok (rows, rest)) (length-rows order l.rows) (bytes_again rows rest) in
    grind (arith, common_steps, u32_again, settings_again)

-- ---- the parts, one after another

-- what each part reads, and what it leaves
record AreRead (bytes rest : List ℕ) (p : Parts) : Type 0 where
  pub after_head : List ℕ
  pub after_rows : List ℕ
  pub after_table : List ℕ
  pub after_special : List ℕ
  pub head_read : head_at sparse_label bytes ≡ Ok ((p.flags, p.order), after_head)
  pub rows_read : row_bytes_at p.order after_head ≡ Ok (p.bytes, after_rows)
  pub table_read : start_table_at p.order after_rows ≡ Ok (p.table, after_table)
  pub special_read : special_at p.order (length p.bytes.rows) after_table ≡ Ok (p.special, after_special)
  pub quit_read : quit_at p.order after_special ≡ Ok (p.quit, rest)

parts_read : {bytes rest : List ℕ} {p : Parts} (h : AreRead bytes rest p) → parts_at bytes ≡ Ok (p, rest)
unfolding parts_at
parts_read h = rw (h.head_read, h.rows_read, h.table_read, h.special_read, h.quit_read) refl

abbrev parts : Order → Layout → Parts
parts order l = parts_of l.flags order (bytes_of order l) (start_table_of l) l.special l.quit

parts_again : (order : Order) (l : Layout) → IsWhole l → Reads parts_at (text order l) (parts order l)
unfolding text
parts_again order l whole rest =
    let read : IsRead l = whole.read in
    let shape : IsShaped l = shaped l whole in
    let ids : AreSpecialIds l.special = special_ids l shape (closed (length l.rows) l whole.closed) in
    let within : l.special.max < length (rows_text order l.rows) =
    (let low = read.within in omega (arith, length-rows order l.rows)) in
    let t4 : List ℕ = quit_text order l.quit ++ rest in
    let t3 : List ℕ = special_text order l.special ++ t4 in
    let t2 : List ℕ = start_table_text order (start_table_of l) ++ t3 in
    let t1 : List ℕ = row_bytes_text order l ++ t2 in
    let all : text order l ++ rest ≡ head_text order sparse_label l.flags ++ t1 =
    regrouped (head_text order sparse_label l.flags) (row_bytes_text order l)
    (start_table_text order (start_table_of l)) (special_text order l.special) (quit_text order l.quit) rest in
    let are : AreRead (text order l ++ rest) rest (parts order l) = record {
      after_head = t1;
      after_rows = t2;
      after_table = t3;
      after_special = t4;
      head_read = ap (head_at sparse_label) all ∙ head_again sparse_label is_label order l.flags t1;
      rows_read = row_bytes_again order l read shape.rows.few t2;
      table_read =
          start_table_again order (start_table_of l) read.table
          (words_below l.starts (λ i lt. omega
          (arith, id_small l shape (slice_index l.starts i) (shape.starts.start_ids i lt)))) t3;
      special_read = special_again order (length (rows_text order l.rows)) l.special read.special within ids t4;
      quit_read = quit_again order l.quit read.quit rest;
    } in
    parts_read are

-- ---- the whole

-- an image is read where its parts and rows are, and they are closed
pub read_by : (bytes rest : List ℕ) (p : Parts) (rows : List Row) → parts_at bytes ≡ Ok (p, rest)
    → rows_at (bounds_of p) p.bytes.rows ≡ Ok rows → is_closed p.bytes.state_len (layout_of p rows) ≡ true
    → reads bytes ≡ Ok (stored_of p rows, length bytes - length rest)
unfolding reads
read_by bytes rest p rows there rows_read test = rw (there, rows_read, test) refl

pub whole_again : (order : Order) (l : Layout) → IsWhole l → (rest : List ℕ)
    → reads (text order l ++ rest) ≡ Ok (record { layout = l; order = order }, length (text order l))
whole_again order l whole rest =
    let bounds : ℕ → Bounds = λ len. record (bounds_in l) { order = order; len = len } in
    let tested : AreTestedRows (bounds (length (rows_text order l.rows))) l.rows =
    subst (λ len. AreTestedRows (bounds len) l.rows) (sym (length-rows order l.rows))
    (are_tested_in order whole.read.rows) in
    let size : length (text order l ++ rest) - length rest ≡ length (text order l) =
    omega (arith, length-append (text order l) rest) in
    read_by (text order l ++ rest) rest (parts order l) l.rows (parts_again order l whole rest)
    (rows_read (bounds (length (rows_text order l.rows))) 0 l.rows
    (length (rows_text (bounds (length (rows_text order l.rows))).order l.rows))
    (omega (arith, length-rows (bounds (length (rows_text order l.rows))).order l.rows, rows_few l.rows))
    (omega arith) tested.each) whole.closed
    ∙ ap (λ (n : ℕ). Ok (stored_of (parts order l) l.rows, n)) size
