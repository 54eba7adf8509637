-- The parts of a row among its bytes, and written in another order.
use Rattle.rx_spec.proofs.Prelude.{common_steps, [], ◌≡◌, ℕ, zero, suc, ◌+◌, ◌/◌, ◌%◌, ◌^◌, ◌<◌, ◌≤◌, List, ◌∷◌, ◌++◌}
use Rattle.rx_spec.proofs.Prelude.{length, take, drop, get_or, slice_index, refl, ap, ap₂, sym, ◌∙◌, subst}
use Rattle.rx_spec.proofs.Prelude.{append_assoc, arith, w16, append-nil, drop-drop, drop_at, take_at, take_more}
use Rattle.rx_spec.proofs.Prelude.{length-append, max_id}
use Rattle.std.proofs.lemmas.List.Concat.{flat_map-append}
use Rattle.rx_wire.specs.declared.order.Order.{Order}
use Rattle.rx_wire.specs.Fields.{field, number}
use Rattle.rx_wire.proofs.Fields.{again16, length-field_16}
use Rattle.rx_wire.proofs.Words.{length-words, words_again}
use Rattle.rx_sparse.specs.Rows.{Row, ends_in, ends_text, head_number, is_match_in, is_some_list, next_ids, next_ids_in}
use Rattle.rx_sparse.specs.Rows.{patterns_in, patterns_len, patterns_text, rest_in, row_in, row_len, row_text, words_in}
use Rattle.rx_sparse.specs.Rows.{no_row, rows_in, rows_len, rows_text, words_text}
use Rattle.rx_sparse.specs.Layouts.{IsShaped, Layout}
use Rattle.rx_sparse.specs.Facts.{rows_len-more}
use Rattle.rx_sparse.proofs.RowLengths.{rows_len-take}
use Rattle.rx_sparse.proofs.RowPlaces.{fits_row, length-rows_in, row_in-there, text_from}
use Rattle.rx_sparse.specs.Parts.{FitsBytes, IsWholeRow}
use Rattle.rx_sparse.proofs.DecodedRows.{pattern_count}
use Rattle.rx_sparse.proofs.RowTexts.{ends_is, ids_is, length-row, length-rows, matches_is, patterns_are}
use Rattle.rx_sparse.proofs.RowTexts.{length-patterns, rest_is, rows_again}
use Rattle.rx_sparse_image.specs.Turned.{AreWholeRows}

-- ---- sizes

-- the parts of a row have the bytes of the row
pub row_sizes : (order : Order) (row : Row)
    → 2 + length (ends_text row.ranges) + length (words_text order (next_ids row))
    + length (patterns_text order row.patterns) + length (length row.needles ∷ row.needles)
    ≡ row_len row
row_sizes order row =
    let t3 : List ℕ = patterns_text order row.patterns ++ (length row.needles ∷ row.needles) in
    let t2 : List ℕ = words_text order (next_ids row) ++ t3 in
    omega (
      arith,
      length-row order row,
      length-append (field order w16 (head_number row)) (ends_text row.ranges ++ t2),
      length-field_16 order (head_number row),
      length-append (ends_text row.ranges) t2,
      length-append (words_text order (next_ids row)) t3,
      length-append (patterns_text order row.patterns) (length row.needles ∷ row.needles),
    )

size_is : (order : Order) (patterns behind : List ℕ) → patterns_in order (is_some_list patterns) behind ≡ patterns
    → patterns_len order (is_some_list patterns) behind ≡ length (patterns_text order patterns)
size_is order [] behind e = refl
size_is order (k ∷ ks) behind e =
    omega (arith, pattern_count order _ behind refl, ap length e, length-patterns order (k ∷ ks))

head_fits : (row : Row) → FitsBytes row → head_number row < 2 ^ 16
head_fits row fits = grind (arith, common_steps)

-- ---- the parts of a row at the front of bytes

module _ {order : Order} {bytes : List ℕ} (whole : IsWholeRow order bytes) where
  abbrev row : Row
  row = row_in order bytes

  abbrev behind : List ℕ
  behind = rest_in order bytes

  -- the bytes of the patterns, and what follows them
  abbrev size : ℕ
  size = patterns_len order (is_match_in order bytes) behind

  abbrev after : List ℕ
  after = drop size behind

  abbrev needles : List ℕ
  needles = length row.needles ∷ row.needles

  pub head_there : number order w16 (take 2 bytes) ≡ head_number row
  head_there =
      let t2 : List ℕ = words_text order (next_ids row) ++ (patterns_text order row.patterns ++ needles) in
      let t1 : List ℕ = ends_text row.ranges ++ t2 in
      let text : List ℕ = field order w16 (head_number row) in
      ap (λ t. number order w16 (take 2 t)) (whole.stands ∙ append_assoc text t1 whole.rest)
      ∙ ap (number order w16) (take_at text (t1 ++ whole.rest) 2 (length-field_16 order (head_number row)))
      ∙ again16 order (head_number row) (head_fits row whole.fits)

  pub ends_there : ends_in order bytes ≡ ends_text row.ranges
  ends_there = ap (ends_in order) whole.stands ∙ ends_is order row whole.rest whole.fits

  pub ids_there : next_ids_in order bytes ≡ words_text order (next_ids row)
  ids_there = ap (next_ids_in order) whole.stands ∙ ids_is order row whole.rest whole.fits

  behind_is : behind ≡ patterns_text order row.patterns ++ (needles ++ whole.rest)
  behind_is = ap (rest_in order) whole.stands ∙ rest_is order row whole.rest whole.fits

  size_there : size ≡ length (patterns_text order row.patterns)
  size_there =
      ap₂ (λ m t. patterns_len order m t)
      (ap (is_match_in order) whole.stands ∙ matches_is order row whole.rest whole.fits) behind_is
      ∙ size_is order row.patterns (patterns_text order row.patterns ++ (needles ++ whole.rest))
      (patterns_are order row whole.rest whole.fits)

  pub patterns_there : take size behind ≡ patterns_text order row.patterns
  patterns_there = grind (arith, common_steps, size_there, behind_is)

  pub after_is : after ≡ needles ++ whole.rest
  after_is = grind (arith, common_steps, size_there, behind_is)

  pub size_low : size < length behind
  size_low = grind (arith, common_steps, size_there, behind_is)

  needle_count : 1 + slice_index after 0 ≡ length needles
  needle_count = omega (arith, ap (λ t. slice_index t 0) after_is)

  pub size_within : size ≤ length behind
  size_within = omega (arith, size_low)

  pub needles_low : 1 + slice_index after 0 ≤ length after
  needles_low = omega (arith, needle_count, ap length after_is, length-append needles whole.rest)

  pub left_there : drop (1 + slice_index after 0) after ≡ drop (row_len row) bytes
  left_there =
      ap₂ drop needle_count after_is
      ∙ drop_at needles whole.rest (length needles) refl
      ∙ sym (
      ap (drop (row_len row)) whole.stands
      ∙ drop_at (row_text order row) whole.rest (row_len row) (length-row order row)
      )

-- ---- in another order

-- whole words
pub words_whole : (order : Order) (words : List ℕ) → length (words_text order words) % 4 ≡ 0
words_whole order words = omega (arith, length-words order words)

pub words_turned : (order other : Order) (words : List ℕ) → ((i : ℕ) → i < length words → slice_index words i < 2 ^ 32)
    → words_text other (words_in order (length (words_text order words) / 4) (words_text order words))
    ≡ words_text other words
words_turned order other words small =
    let count : length (words_text order words) / 4 ≡ length words = omega (arith, length-words order words) in
    ap (words_text other)
    (ap₂ (λ n t. words_in order n t) count (sym (append-nil (words_text order words)))
    ∙ words_again order words [] small)

pub ids_turned : (order other : Order) (row : Row) → FitsBytes row
    → words_text other (words_in order (length (words_text order (next_ids row)) / 4) (words_text order (next_ids row)))
    ≡ words_text other (next_ids row)
ids_turned order other row fits = grind (arith, common_steps, words_turned)

pub patterns_whole : (order : Order) (patterns : List ℕ) → length (patterns_text order patterns) % 4 ≡ 0
patterns_whole order [] = refl
patterns_whole order (k ∷ ks) = words_whole order (length (k ∷ ks) ∷ (k ∷ ks))

all_turned : (order other : Order) (patterns : List ℕ) → length patterns < 2 ^ 32
    → ((i : ℕ) → i < length patterns → slice_index patterns i ≤ max_id)
    → words_text other
    (words_in order (length (patterns_text order patterns) / 4) (patterns_text order patterns))
    ≡ patterns_text other patterns
all_turned order other [] few small = refl
all_turned order other (k ∷ ks) few small = words_turned order other (length (k ∷ ks) ∷ (k ∷ ks)) each
  where
    each : (i : ℕ) → i < length (length (k ∷ ks) ∷ (k ∷ ks))
        → slice_index (length (k ∷ ks) ∷ (k ∷ ks)) i < 2 ^ 32
    each zero h = few
    each (suc i) h = omega (arith, small i (omega arith))

pub patterns_turned : (order other : Order) (row : Row) → FitsBytes row
    → words_text other
    (words_in order (length (patterns_text order row.patterns) / 4) (patterns_text order row.patterns))
    ≡ patterns_text other row.patterns
patterns_turned order other row fits = all_turned order other row.patterns fits.few_patterns fits.patterns

-- ---- a row among others

module _ (order : Order) (count : ℕ) (bytes : List ℕ) (are : AreWholeRows order count bytes) where
  abbrev rows : List Row
  rows = rows_in order count bytes

  pub rows_size : length bytes ≡ rows_len rows
  rows_size = ap length are.stands ∙ length-rows order rows

  module _ (i : ℕ) (h : i < count) where
    abbrev there : List ℕ
    there = drop (rows_len (take i rows)) bytes

    within : i < length rows
    within = omega (arith, length-rows_in order count bytes)

    pub there_is : row_in order there ≡ get_or rows i no_row
    there_is = sym (row_in-there order count bytes i h)

    pub whole_there : IsWholeRow order there
    whole_there = record {
      rest = rows_text order (drop (i + 1) rows);
      stands =
          ap (drop (rows_len (take i rows))) are.stands
          ∙ text_from order rows i within
          ∙ ap (λ r. row_text order r ++ rows_text order (drop (i + 1) rows)) (sym there_is);
      fits = subst FitsBytes (sym there_is) (are.fits i h);
    }

    next_place : rows_len (take i rows) + row_len (row_in order there) ≡ rows_len (take (i + 1) rows)
    next_place = omega (arith, rows_len-more rows i within, ap row_len there_is)

    pub place_within : rows_len (take i rows) + row_len (row_in order there) ≤ length bytes
    place_within = omega (arith, next_place, rows_len-take rows (i + 1), rows_size)

    pub next_there : drop (row_len (row_in order there)) there ≡ drop (rows_len (take (i + 1) rows)) bytes
    next_there =
        drop-drop (row_len (row_in order there)) (rows_len (take i rows)) bytes
        ∙ ap (λ n. drop n bytes) next_place

    pub next_len : (at : ℕ)
        → at + rows_len (take i rows) + row_len (row_in order there) ≡ at + rows_len (take (i + 1) rows)
    next_len at = omega (arith, next_place)

    pub rows_more : (other : Order)
        → rows_text other (take i rows) ++ row_text other (row_in order there) ≡ rows_text other (take (i + 1) rows)
    rows_more other =
        ap (λ r. rows_text other (take i rows) ++ row_text other r) there_is
        ∙ ap (λ t. rows_text other (take i rows) ++ t) (sym (append-nil (row_text other (get_or rows i no_row))))
        ∙ sym (
        ap (rows_text other) (take_more rows i no_row within)
        ∙ flat_map-append (row_text other) (take i rows) (get_or rows i no_row ∷ [])
        )

-- the rows of a table
module _ (order : Order) (l : Layout) (shaped : IsShaped l) where
  pub rows_there : rows_in order (length l.rows) (rows_text order l.rows) ≡ l.rows
  rows_there = rows_again order l.rows (λ i h. fits_row l shaped i h)

  pub are_whole : AreWholeRows order (length l.rows) (rows_text order l.rows)
  are_whole = record {
    stands = ap (rows_text order) (sym rows_there);
    fits = λ i h. subst (λ rs. FitsBytes (get_or rs i no_row)) (sym rows_there) (fits_row l shaped i h);
  }
