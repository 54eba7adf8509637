-- A whole image is read again, in either order, whatever follows, and its length is told.
use Rattle.rx_spec.proofs.Prelude.{common_steps, ◌≡◌, ℕ, ◌<◌, ◌≤◌, true, List, ◌++◌, length, slice_index, Ok, refl, ap}
use Rattle.rx_spec.proofs.Prelude.{◌∙◌, arith, max_id}
use Rattle.rx_wire.specs.declared.order.Order.{Order}
use Rattle.rx_wire.specs.Kinds.{Reads}
use Rattle.rx_dense.specs.declared.flags.Flags.{Flags}
use Rattle.rx_dense.specs.Layouts.{AreRows, IsRowId, IsShaped, Layout, is_row_id}
use Rattle.rx_dense.proofs.Rows.{id_few, valid_id}
use Rattle.rx_image_parts.specs.Heads.{head_text}
use Rattle.rx_dense_image.specs.Heads.{dense_head_at, dense_label}
use Rattle.rx_image_parts.specs.Words.{AreWords}
use Rattle.rx_dense_image.specs.Rows.{Rows, rows_at, rows_of, rows_text}
use Rattle.rx_image_parts.specs.StartTables.{StartTable, start_table_at, start_table_text}
use Rattle.rx_dense_image.specs.PatternLists.{PatternLists, pattern_lists_at, pattern_lists_text}
use Rattle.rx_dense_image.specs.Marks.{Marks, marks_at, marks_text}
use Rattle.rx_dense_image.specs.Images.{IsWhole, joined, marks_of, parts_at, pattern_lists_of, reads, start_table_of}
use Rattle.rx_dense_image.specs.Images.{text}
use Rattle.rx_dense_image.proofs.AccelRows.{AreSpecialRows}
use Rattle.rx_dense_image.proofs.ClosedFacts.{closed}
use Rattle.rx_dense_image.proofs.ShapedImages.{shaped}
use Rattle.rx_image_parts.proofs.ReadAgain.{words_below, regrouped}
use Rattle.rx_dense_image.proofs.ReadAgain.{dense_head_again, rows_again}
use Rattle.rx_image_parts.proofs.TablesAgain.{start_table_again}
use Rattle.rx_dense_image.proofs.ListsAgain.{pattern_lists_again}
use Rattle.rx_image_parts.proofs.SpecialAgain.{AreSpecialIds}
use Rattle.rx_dense_image.proofs.MarksAgain.{marks_again}

-- ids of rows are words
ids_words : (l : Layout) → AreRows l → (words : List ℕ)
    → ((k : ℕ) → k < length words → IsRowId l (slice_index words k)) → AreWords words
ids_words l rows words ids = words_below words (λ i lt. omega (arith, id_few l rows (slice_index words i) (ids i lt)))

special_few : (l : Layout) → AreRows l → (id : ℕ) → is_row_id l id ≡ true → id ≤ max_id
special_few l rows id test = id_few l rows id (valid_id l rows id test)

special_ids : (l : Layout) → AreRows l → AreSpecialRows l → AreSpecialIds l.special
special_ids l rows h = grind (arith, common_steps, special_few)

-- ---- the parts, one after another

-- what each part reads, and what it leaves
record AreRead (bytes rest : List ℕ) (order : Order) (word_len : ℕ) : Type 0 where
  pub flags : Flags
  pub rows : Rows
  pub table : StartTable
  pub lists : PatternLists
  pub marks : Marks
  pub after_head : List ℕ
  pub after_rows : List ℕ
  pub after_table : List ℕ
  pub after_lists : List ℕ
  pub head_read : dense_head_at bytes ≡ Ok ((flags, order), after_head)
  pub rows_read : rows_at order after_head ≡ Ok (rows, after_rows)
  pub table_read : start_table_at order after_rows ≡ Ok (table, after_table)
  pub lists_read : pattern_lists_at order after_table ≡ Ok (lists, after_lists)
  pub len : length rows.words ≡ word_len
  pub marks_read : marks_at order word_len after_lists ≡ Ok (marks, rest)

parts_read : {bytes rest : List ℕ} {order : Order} {word_len : ℕ} (h : AreRead bytes rest order word_len)
    → parts_at bytes ≡ Ok (joined h.flags h.rows h.table h.lists h.marks, rest)
unfolding parts_at
parts_read h = rw (h.head_read, h.rows_read, h.table_read, h.lists_read, h.len, h.marks_read) refl

parts_again : (order : Order) (l : Layout) → IsWhole l → Reads parts_at (text order l) l
unfolding text
parts_again order l whole rest =
    let shape : IsShaped l = shaped l whole in
    let starts : AreWords l.starts = ids_words l shape.rows l.starts shape.starts.start_ids in
    let ids : AreSpecialIds l.special = special_ids l shape.rows (closed l whole.closed).special in
    let t4 : List ℕ = marks_text order (marks_of l) ++ rest in
    let t3 : List ℕ = pattern_lists_text order (pattern_lists_of l) ++ t4 in
    let t2 : List ℕ = start_table_text order (start_table_of l) ++ t3 in
    let t1 : List ℕ = rows_text order (rows_of l) ++ t2 in
    let all : text order l ++ rest ≡ head_text order dense_label l.flags ++ t1 =
    regrouped (head_text order dense_label l.flags) (rows_text order (rows_of l))
    (start_table_text order (start_table_of l)) (pattern_lists_text order (pattern_lists_of l))
    (marks_text order (marks_of l)) rest in
    let read : AreRead (text order l ++ rest) rest order (length l.words) = record {
      flags = l.flags;
      rows = rows_of l;
      table = start_table_of l;
      lists = pattern_lists_of l;
      marks = marks_of l;
      after_head = t1;
      after_rows = t2;
      after_table = t3;
      after_lists = t4;
      head_read = ap dense_head_at all ∙ dense_head_again order l.flags t1;
      rows_read = rows_again order (rows_of l) whole.read.rows (ids_words l shape.rows l.words shape.rows.next_ids) t2;
      table_read = start_table_again order (start_table_of l) whole.read.table starts t3;
      lists_read = pattern_lists_again order (pattern_lists_of l) whole.read.lists t4;
      len = refl;
      marks_read = marks_again order (length l.words) (marks_of l) whole.read.marks ids rest;
    } in
    parts_read read

pub whole_again : (order : Order) (l : Layout) → IsWhole l → (rest : List ℕ)
    → reads (text order l ++ rest) ≡ Ok (l, length (text order l))
unfolding reads
whole_again order l whole rest = grind (arith, common_steps, parts_again)
