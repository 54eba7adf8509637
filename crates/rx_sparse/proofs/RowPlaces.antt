-- Where the rows of a table stand among its bytes.
use Rattle.rx_spec.proofs.Prelude.{common_steps, ◌≡◌, ℕ, zero, suc, ◌+◌, ◌*◌, ◌/◌, ◌^◌, ◌<◌, ◌≤◌, List, [], ◌∷◌, ◌++◌}
use Rattle.rx_spec.proofs.Prelude.{length, take, drop, get_or, slice_index, refl, ap, sym, ◌∙◌, subst, arith, ◌==◌}
use Rattle.rx_spec.proofs.Prelude.{Bool, true, false, cond, ⊎_elim, inl, inr, cases_eq, cases_lt, ne_eqb, drop-drop}
use Rattle.rx_spec.proofs.Prelude.{drop_at, get_or-map-range_with_len, length-map-range_with_len, div-add-mod', max_id}
use Rattle.rx_spec.proofs.Prelude.{id_of, row_of}
use Rattle.rx_lemmas.proofs.Ids.{row_of-id_of}
use Rattle.rx_search.specs.Starts.{IsId}
use Rattle.rx_dense.proofs.Rows.{id_at_row}
use Rattle.rx_wire.specs.declared.order.Order.{Order}
use Rattle.rx_sparse.specs.declared.ranges.ClassRange.{ClassRange}
use Rattle.rx_sparse.specs.Rows.{Row, has_class, next_among, next_ids, no_range, no_row, offsets, row_in, row_len}
use Rattle.rx_sparse.specs.Rows.{row_text, rows_in, rows_len, rows_text, word_at, words_in}
use Rattle.rx_sparse.specs.Layouts.{IsRow, IsShaped, Layout, ids_of, memory_usage, next_id, row_at}
use Rattle.rx_sparse.specs.Parts.{AreParts, FitsBytes, IsWholeRow, stored}
use Rattle.rx_sparse.specs.declared.parts.Parts.{Parts}
use Rattle.rx_sparse.specs.Facts.{length-offsets, offset_at, offsets_are_ids, rows_len-more}
use Rattle.rx_sparse.proofs.RowLengths.{row_len-patterns, rows_len-take}
use Rattle.rx_sparse.proofs.RowTexts.{eoi_there, length-next_ids, length-row, length-rows, next_there}

pub length-rows_in : (order : Order) (count : ℕ) (bytes : List ℕ) → length (rows_in order count bytes) ≡ count
unfolding rows_in
length-rows_in order zero bytes = refl
length-rows_in order (suc count) bytes = ap suc (length-rows_in order count (drop (row_len (row_in order bytes)) bytes))

-- the bytes from a row on spell it first
pub row_in-there : (order : Order) (count : ℕ) (bytes : List ℕ) (row : ℕ) → row < count
    → get_or (rows_in order count bytes) row no_row
    ≡ row_in order (drop (rows_len (take row (rows_in order count bytes))) bytes)
unfolding rows_in rows_len
row_in-there order zero bytes row h = elim h [ ]
row_in-there order (suc count) bytes zero h = refl
row_in-there order (suc count) bytes (suc row) h =
    let len : ℕ = row_len (row_in order bytes) in
    row_in-there order count (drop len bytes) row (omega arith)
    ∙ ap (row_in order) (drop-drop (rows_len (take row (rows_in order count (drop len bytes)))) len bytes)

-- the text of all rows, from one on
pub text_from : (order : Order) (rows : List Row) (row : ℕ) → row < length rows
    → drop (rows_len (take row rows)) (rows_text order rows)
    ≡ row_text order (get_or rows row no_row) ++ rows_text order (drop (row + 1) rows)
unfolding rows_len
text_from order [] row h = elim h [ ]
text_from order (r ∷ rows) zero h = refl
text_from order (r ∷ rows) (suc row) h =
    let rest : List ℕ = rows_text order rows in
    sym (drop-drop (rows_len (take row rows)) (row_len r) ((row_text order r) ++ rest))
    ∙ ap (drop (rows_len (take row rows))) (drop_at (row_text order r) rest (row_len r) (length-row order r))
    ∙ text_from order rows row (omega arith)
    ∙ ap (λ n. row_text order (get_or rows row no_row) ++ rows_text order (drop n (r ∷ rows)))
    (let e : suc (row + 1) ≡ suc row + 1 = omega arith in e)

-- ---- where a row leads

-- what holds of where each range and the end mark lead holds of each next id
pub each_next : (P : ℕ → Type 0) (row : Row)
    → ((i : ℕ) → i < length row.ranges → P (get_or row.ranges i no_range).next) → P row.eoi
    → (i : ℕ) → i < length (next_ids row) → P (slice_index (next_ids row) i)
each_next P row nexts eoi i b =
    elim (cases_lt i (length row.ranges)) [
      | inl low ↦ (subst P (sym (next_there row.ranges (row.eoi ∷ []) i low)) (nexts i low))
      | inr high ↦ (
          let last : i ≡ length row.ranges = omega (arith, length-next_ids row) in
          subst P (sym (ap (slice_index (next_ids row)) last ∙ eoi_there row.ranges row.eoi)) eoi)
    ]

either : (P : ℕ → Type 0) (b : Bool) (x y : ℕ) → P x → P y → P (cond b x y)
either P true x y p q = p
either P false x y p q = q

-- and with dead, of where each class and each unit lead
pub among : (P : ℕ → Type 0) → P 0 → (ranges : List ClassRange) (class : ℕ)
    → ((i : ℕ) → i < length ranges → P (get_or ranges i no_range).next) → P (next_among ranges class)
unfolding next_among
among P dead [] class each = dead
among P dead (range ∷ ranges) class each =
    either P (has_class class range) range.next (next_among ranges class) (each 0 (omega arith))
    (among P dead ranges class (λ i h. each (suc i) (omega (arith, h))))

pub unit_leads : (P : ℕ → Type 0) → P 0 → (row : Row)
    → ((i : ℕ) → i < length row.ranges → P (get_or row.ranges i no_range).next) → P row.eoi
    → (classes : List ℕ) (unit : ℕ) → P (next_id classes row unit)
unit_leads P dead row nexts eoi classes unit =
    either P (unit == 256) row.eoi (next_among row.ranges (slice_index classes unit)) eoi
    (among P dead row.ranges (slice_index classes unit) nexts)

-- ---- ids

module _ (l : Layout) (shaped : IsShaped l) where
  pub id_few : (id : ℕ) → IsId (ids_of l) id → id ≤ rows_len l.rows
  id_few id is =
      omega (
        arith,
        id_at_row (ids_of l) id is,
        offset_at 0 l.rows (row_of (ids_of l) id) (omega (arith, length-offsets 0 l.rows)),
        rows_len-take l.rows (row_of (ids_of l) id),
      )

  pub id_small : (id : ℕ) → IsId (ids_of l) id → id ≤ max_id
  id_small id is = let few = shaped.rows.few in omega (arith, id_few id is)

  module _ (row : ℕ) (h : row < length l.rows) where
    next_id_small : (i : ℕ) → i < length (next_ids (row_at l row)) → slice_index (next_ids (row_at l row)) i ≤ max_id
    next_id_small =
        let is : IsRow l row = shaped.rows.rows row h in
        each_next (λ id. id ≤ max_id) (row_at l row) (λ i low. id_small _ (is.nexts i low)) (id_small _ is.eoi)

    patterns_few : length (row_at l row).patterns < 2 ^ 32
    patterns_few =
        let few = shaped.rows.few in
        omega (
          arith,
          row_len-patterns (row_at l row),
          rows_len-more l.rows row h,
          rows_len-take l.rows (row + 1),
        )

    pub fits_row : FitsBytes (row_at l row)
    fits_row =
        let is : IsRow l row = shaped.rows.rows row h in
        record {
          few = is.ranges.few;
          next_ids = next_id_small;
          few_patterns = patterns_few;
          patterns = is.patterns;
          needles = is.needles;
        }

-- ---- the bytes of a table

module _ (p : Parts) (rows starts : List ℕ) (are : AreParts p rows starts) where
  abbrev layout : Layout
  layout = (stored p rows starts).layout

  count : length layout.rows ≡ p.state_len
  count = length-rows_in p.order p.state_len rows

  pub rows_size : length rows ≡ rows_len layout.rows
  rows_size = sym (ap length are.whole) ∙ length-rows p.order layout.rows

  module _ (row : ℕ) (h : row < length layout.rows) where
    abbrev bytes : List ℕ
    bytes = drop (rows_len (take row layout.rows)) rows

    pub row_is : row_in p.order bytes ≡ row_at layout row
    row_is = sym (row_in-there p.order p.state_len rows row (omega (arith, count)))

    pub row_there : IsWholeRow p.order bytes
    row_there = record {
      rest = rows_text p.order (drop (row + 1) layout.rows);
      stands =
          ap (drop (rows_len (take row layout.rows))) (sym are.whole)
          ∙ text_from p.order layout.rows row h
          ∙ ap (λ r. row_text p.order r ++ rows_text p.order (drop (row + 1) layout.rows)) (sym row_is);
      fits = subst FitsBytes (sym row_is) (fits_row layout are.shaped row h);
    }

  -- the bytes from the offset of a row on
  module _ (id : ℕ) (is : IsId (ids_of layout) id) where
    abbrev row_number : ℕ
    row_number = row_of (ids_of layout) id

    within : row_number < length layout.rows
    within = omega (arith, length-offsets 0 layout.rows)

    place : rows_len (take row_number layout.rows) ≡ id
    place = omega (arith, id_at_row (ids_of layout) id is, offset_at 0 layout.rows row_number within)

    pub id_within : id ≤ length rows
    id_within = omega (arith, rows_size, id_few layout are.shaped id is)

    pub row_is_at : row_in p.order (drop id rows) ≡ row_at layout row_number
    row_is_at = ap (λ at. row_in p.order (drop at rows)) (sym place) ∙ row_is row_number within

    pub row_there_at : IsWholeRow p.order (drop id rows)
    row_there_at = subst (λ at. IsWholeRow p.order (drop at rows)) place (row_there row_number within)

-- ---- start entries and sizes

module _ (p : Parts) (rows starts : List ℕ) (are : AreParts p rows starts) where
  pub starts_count : length (words_in p.order (length starts / 4) starts) ≡ length starts / 4
  starts_count = length-map-range_with_len (word_at p.order starts) 0 (length starts / 4)

  pub memory_is : length rows + length starts ≡ memory_usage (layout p rows starts are)
  memory_is = grind (arith, common_steps, rows_size, starts_count, div-add-mod')

  module _ (i : ℕ) (h : i < length (layout p rows starts are).starts) where
    low : i < length starts / 4
    low = omega (arith, starts_count)

    pub start_within : 4 * i + 4 ≤ length starts
    start_within = omega (arith, low, div-add-mod' (length starts) 4)

    pub start_is : word_at p.order starts i ≡ slice_index (layout p rows starts are).starts i
    start_is =
        let none : 0 + i ≡ i = omega arith in
        sym (get_or-map-range_with_len (word_at p.order starts) 0 (length starts / 4) i i 0 low none)

    pub start_small : word_at p.order starts i ≤ max_id
    start_small =
        omega (arith, start_is, id_small (layout p rows starts are) are.shaped _ (are.shaped.starts.start_ids i h))

-- ---- dead

-- row 0 has id 0, and no other row has
module _ (rows : List Row) (some : 0 < length rows) where
  pub first_id : id_of (offsets rows) 0 ≡ 0
  unfolding rows_len
  first_id = offset_at 0 rows 0 some

  pub zero_row : row_of (offsets rows) 0 ≡ 0
  zero_row = ap (row_of (offsets rows)) (sym first_id) ∙ row_of-id_of (offsets_are_ids rows) 0 some

pub dead_kind : (rows : List Row) (id : ℕ) → IsId (offsets rows) id → (id == 0) ≡ (row_of (offsets rows) id == 0)
dead_kind rows id is =
    let some : 0 < length rows = omega (arith, length-offsets 0 rows) in
    ⊎_elim
    (λ (zero : id ≡ 0).
    ap (λ x. x == 0) zero
    ∙ sym (ap (λ x. row_of (offsets rows) x == 0) zero ∙ ap (λ x. x == 0) (zero_row rows some)))
    (λ (more : id ≡ 0 → ⊥).
    ne_eqb id 0 more
    ∙ sym (ne_eqb (row_of (offsets rows) id) 0
    (λ e. more (sym (id_at_row (offsets rows) id is) ∙ ap (id_of (offsets rows)) e ∙ first_id rows some))))
    (cases_eq id 0)

-- ---- next rows and start rows

module _ (l : Layout) (shaped : IsShaped l) where
  pub zero_is_id : IsId (ids_of l) 0
  zero_is_id = grind (arith, common_steps, zero_row, length-offsets 0 l.rows)

  pub next_is_id : (id class : ℕ) → IsId (ids_of l) id
      → IsId (ids_of l) (next_among (row_at l (row_of (ids_of l) id)).ranges class)
  next_is_id id class is =
      among (IsId (ids_of l)) zero_is_id (row_at l (row_of (ids_of l) id)).ranges class
      (shaped.rows.rows (row_of (ids_of l) id) (omega (arith, length-offsets 0 l.rows, is))).nexts

  pub next_row_is_id : (row unit : ℕ) → row < length l.rows → IsId (ids_of l) (next_id l.classes (row_at l row) unit)
  next_row_is_id row unit h =
      let is : IsRow l row = shaped.rows.rows row h in
      unit_leads (IsId (ids_of l)) zero_is_id (row_at l row) is.nexts is.eoi l.classes unit

  pub eoi_is_id : (id : ℕ) → IsId (ids_of l) id → IsId (ids_of l) (row_at l (row_of (ids_of l) id)).eoi
  eoi_is_id id is = (shaped.rows.rows (row_of (ids_of l) id) (omega (arith, length-offsets 0 l.rows, is))).eoi

-- a byte is no end mark
pub next_on_byte : (classes : List ℕ) (row : Row) (byte : ℕ) → byte < 256
    → next_among row.ranges (slice_index classes byte) ≡ next_id classes row byte
next_on_byte classes row byte h = grind (arith, common_steps, ne_eqb)
