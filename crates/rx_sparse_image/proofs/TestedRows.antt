-- A row that passed its tests stands whole at the front of its bytes, and what the tests say is true of it.
use Rattle.rx_spec.proofs.Prelude.{common_steps, [], ◌≡◌, ℕ, ◌+◌, ◌-◌, ◌*◌, ◌/◌, ◌%◌, ◌^◌, ◌<◌, ◌≤◌, Bool, true, false}
use Rattle.rx_spec.proofs.Prelude.{◌&&◌, ◌||◌, ◌==◌, cond, leb, ltb, eqb, List, ◌∷◌, ◌++◌, length, take, drop, map}
use Rattle.rx_spec.proofs.Prelude.{get_or, slice_index, Ok, refl, ap, ap₂, sym, ◌∙◌, subst, length-drop}
use Rattle.rx_spec.proofs.Prelude.{arith, ⊎_elim, list_all, range_with_len, w16, w32, take-add, and_parts, eqb-true}
use Rattle.rx_spec.proofs.Prelude.{leb-false, leb-true, ltb-true, or_cases, drop_at, length-append, length-take-le}
use Rattle.rx_spec.proofs.Prelude.{All-drop, All-take, get_or-map-range_with_len, length-map-range_with_len, AreBytes}
use Rattle.std.proofs.lemmas.List.{take-append-drop}
use Rattle.rx_wire.specs.declared.order.Order.{Order}
use Rattle.rx_wire.specs.Fields.{field}
use Rattle.rx_dense.specs.Specials.{is_accel_id, is_match_id}
use Rattle.rx_image_parts.proofs.EachBelow.{all_at}
use Rattle.rx_image_parts.proofs.ReadAgain.{regrouped}
use Rattle.rx_sparse.specs.Parts.{FitsBytes}
use Rattle.rx_sparse.specs.Rows.{Row, behind_ends, count_in, ends_in, ends_text, head_number, is_match_in, is_some_list}
use Rattle.rx_sparse.specs.Rows.{next_ids, next_ids_in, no_range, patterns_in, patterns_len, patterns_text, range_in}
use Rattle.rx_sparse.specs.Rows.{rest_in, row_in, row_len, row_text, word_at, words_in, words_text}
use Rattle.rx_sparse.proofs.RowTexts.{length-row}
use Rattle.rx_sparse_image.specs.declared.rows.Bounds.{Bounds}
use Rattle.rx_sparse_image.specs.Tested.{IsTestedRow}
use Rattle.rx_sparse_image.specs.Walks.{is_range_at, may_have, row_at}
use Rattle.rx_sparse_image.proofs.DecodedBytes.{ends_are, field16_is, field32_is, nexts_are, number16_below, words_are}
use Rattle.rx_sparse_image.proofs.DecodedBytes.{number32_below}
use Rattle.rx_sparse_image.proofs.ReadRows.{IsReadRow, behind_patterns, head_word, row_ok}

-- ---- numbers of a head

-- a number is its lowest 15 bits and its highest one
whole_word : (n : ℕ) (some : Bool) → n < 2 ^ 16 → 1 ≤ n % 32768 → some ≡ leb 32768 n
    → n % 32768 - 1 + 1 + cond some 32768 0 ≡ n
whole_word n true small h e = let high = leb-true 32768 n (sym e) in omega arith
whole_word n false small h e = let low = leb-false 32768 n (sym e) in omega arith

-- ---- patterns

-- the text of patterns that are some
some_text : (order : Order) (patterns : List ℕ) → is_some_list patterns ≡ true
    → patterns_text order patterns ≡ field order w32 (length patterns) ++ words_text order patterns
some_text order [] e = absurd cc
some_text order (k ∷ ks) e = refl

-- patterns that were decoded are their bytes
patterns_are : (order : Order) (is_match : Bool) (bytes : List ℕ) → AreBytes bytes
    → patterns_len order is_match bytes ≤ length bytes → is_some_list (patterns_in order is_match bytes) ≡ is_match
    → patterns_text order (patterns_in order is_match bytes) ≡ take (patterns_len order is_match bytes) bytes
patterns_are order false bytes are long e = refl
patterns_are order true bytes are long e =
    let n : ℕ = word_at order bytes 0 in
    some_text order (words_in order n (drop 4 bytes)) e
    ∙ ap₂ (λ (s t : List ℕ). s ++ t)
    (ap (field order w32) (length-map-range_with_len (word_at order (drop 4 bytes)) 0 n)
    ∙ field32_is order (take 4 bytes) (All-take (λ x. x < 256) 4 bytes are)
    (length-take-le 4 bytes (omega arith)))
    (words_are order n (drop 4 bytes) (All-drop (λ x. x < 256) 4 bytes are) (omega (arith, length-drop 4 bytes)))
    ∙ sym (take-add 4 (4 * n) bytes)

-- they are as many as a word can count
patterns_few : (order : Order) (is_match : Bool) (bytes : List ℕ) → AreBytes bytes
    → length (patterns_in order is_match bytes) < 2 ^ 32
patterns_few order false bytes are = omega arith
patterns_few order true bytes are =
    omega (
      arith,
      length-map-range_with_len (word_at order (drop 4 bytes)) 0 (word_at order bytes 0),
      number32_below order (take 4 (drop (4 * 0) bytes))
          (All-take (λ b. b < 256) 4 (drop (4 * 0) bytes) (All-drop (λ b. b < 256) (4 * 0) bytes are)),
    )

-- ---- a row

-- a count, and as many bytes behind it
counted : (n : ℕ) (xs : List ℕ) → 1 ≤ length xs → n ≡ slice_index xs 0 → n ∷ take n (drop 1 xs) ≡ take (1 + n) xs
counted n [] h e = elim h [ ]
counted n (x ∷ xs) h e = grind (arith, common_steps)

module _ (b : Bounds) (at : ℕ) (bytes rest : List ℕ) (are : AreBytes bytes)
    (is : IsReadRow b at bytes (row_in b.order bytes) rest) where
  abbrev order : Order
  order = b.order

  abbrev count : ℕ
  count = count_in b.order bytes

  abbrev row : Row
  row = row_in b.order bytes

  abbrev ends : List ℕ
  ends = ends_in b.order bytes

  abbrev ids : List ℕ
  ids = next_ids_in b.order bytes

  abbrev is_match : Bool
  is_match = is_match_in b.order bytes

  abbrev behind : List ℕ
  behind = rest_in b.order bytes

  abbrev after : List ℕ
  after = behind_patterns b at bytes

  abbrev word : ℕ
  word = head_word b at bytes

  -- what the head says of the counts
  head_parts : (1 ≤ count) × (count ≤ 257) × (is_match_id b.special at ≡ is_match)
  head_parts = grind (arith, common_steps, and_parts, leb-true)

  some : 1 ≤ count
  some = head_parts.0

  -- ---- lengths of parts

  -- the place of the end mark among them
  n_is : length ends / 2 - 1 ≡ count - 1
  n_is = omega (arith, length-take-le (2 * count) (drop 2 bytes) is.ends_long)

  -- one range less than the head counts
  length-ranges : length row.ranges ≡ count - 1
  length-ranges = length-map-range_with_len (range_in order ends ids) 0 (length ends / 2 - 1) ∙ n_is

  -- as many needles as their count tells
  length-needles : length row.needles ≡ slice_index after 0
  length-needles = grind (arith, common_steps)

  -- ---- what the bytes of parts are

  bytes_ids : AreBytes (behind_ends order bytes)
  bytes_ids = All-drop (λ x. x < 256) (2 * count) (drop 2 bytes) (All-drop (λ x. x < 256) 2 bytes are)

  bytes_rest : AreBytes behind
  bytes_rest = All-drop (λ x. x < 256) (4 * count) (behind_ends order bytes) bytes_ids

  -- the head is that of the row
  head_number_is : head_number row ≡ word
  head_number_is =
      ap₂ (λ n s. n + 1 + cond s 32768 0) length-ranges is.patterns.some
      ∙ whole_word word is_match (number16_below order (take 2 bytes) (All-take (λ x. x < 256) 2 bytes are)) some refl

  head_text_is : field order w16 (head_number row) ≡ take 2 bytes
  head_text_is =
      ap (field order w16) head_number_is
      ∙ field16_is order (take 2 bytes) (All-take (λ x. x < 256) 2 bytes are) (length-take-le 2 bytes is.head.long)

  -- what the ends say: each range passed, and the end mark is zeros
  ends_parts : ((i : ℕ) → i < count - 1 → is_range_at b.last_class ends i ≡ true)
      × (slice_index ends (2 * count - 2) ≡ 0) × (slice_index ends (2 * count - 1) ≡ 0)
  ends_parts =
      let each : Bool = list_all (is_range_at b.last_class ends) (range_with_len 0 (count - 1)) in
      let first : ℕ = slice_index ends (2 * count - 2) in
      let last : ℕ = slice_index ends (2 * count - 1) in
      let p = and_parts (each && eqb first 0) (eqb last 0) is.ends in
      let q = and_parts each (eqb first 0) p.0 in
      (λ i h. all_at (count - 1) (is_range_at b.last_class ends) i q.0 h, eqb-true first 0 q.1, eqb-true last 0 p.1)

  ends_text_is : ends_text row.ranges ≡ ends
  ends_text_is =
      ap (λ n. ends_text (map (range_in order ends ids) (range_with_len 0 n))) n_is
      ∙ ends_are order count ends ids some (length-take-le (2 * count) (drop 2 bytes) is.ends_long) ends_parts.1
      ends_parts.2

  next_ids_is : next_ids row ≡ words_in order count ids
  next_ids_is = grind (arith, common_steps, n_is, nexts_are)

  ids_text_is : words_text order (next_ids row) ≡ ids
  ids_text_is = grind (arith, common_steps, next_ids_is, words_are, bytes_ids)

  patterns_text_is : patterns_text order row.patterns ≡ take (patterns_len order is_match behind) behind
  patterns_text_is = patterns_are order is_match behind bytes_rest is.patterns.long is.patterns.some

  needles_text_is : length row.needles ∷ row.needles ≡ take (1 + slice_index after 0) after
  needles_text_is = grind (arith, common_steps, counted)

  -- ---- the row

  -- the row stands whole at the front, and the rest follows
  row_stands : bytes ≡ row_text order row ++ rest
  row_stands =
      let n : ℕ = 1 + slice_index after 0 in
      let needles : List ℕ = length row.needles ∷ row.needles in
      let join = λ (s t : List ℕ). s ++ t in
      let a1 : needles ++ rest ≡ after = ap₂ join needles_text_is is.behind ∙ take-append-drop n after in
      let a2 : patterns_text order row.patterns ++ (needles ++ rest) ≡ behind =
      ap₂ join patterns_text_is a1 ∙ take-append-drop (patterns_len order is_match behind) behind in
      let a3 : words_text order (next_ids row) ++ (patterns_text order row.patterns ++ (needles ++ rest))
      ≡ behind_ends order bytes =
      ap₂ join ids_text_is a2 ∙ take-append-drop (4 * count) (behind_ends order bytes) in
      let a4 : ends_text row.ranges
      ++ (words_text order (next_ids row) ++ (patterns_text order row.patterns ++ (needles ++ rest)))
      ≡ drop 2 bytes =
      ap₂ join ends_text_is a3 ∙ take-append-drop (2 * count) (drop 2 bytes) in
      sym (
      regrouped (field order w16 (head_number row)) (ends_text row.ranges) (words_text order (next_ids row))
      (patterns_text order row.patterns) needles rest
      ∙ ap₂ join head_text_is a4
      ∙ take-append-drop 2 bytes
      )

  -- the rest is what lies behind as many bytes as the row has
  row_behind : rest ≡ drop (row_len row) bytes
  row_behind =
      sym (ap (drop (row_len row)) row_stands ∙ drop_at (row_text order row) rest (row_len row) (length-row order row))

  -- together they have as many bytes as there are
  row_size : row_len row + length rest ≡ length bytes
  row_size = omega (arith, length-row order row, length-append (row_text order row) rest, ap length row_stands)

  module _ (i : ℕ) (h : i < length row.ranges) where
    range_low : i < count - 1
    range_low = omega (arith, length-ranges)

    -- a range by its place
    range_is : get_or row.ranges i no_range ≡ range_in order ends ids i
    range_is = grind (arith, common_steps, get_or-map-range_with_len, range_low)

    abbrev first : ℕ
    first = slice_index ends (2 * i)

    abbrev last : ℕ
    last = slice_index ends (2 * i + 1)

    -- what its test says
    range_tests : (first ≤ last) × (last ≤ b.last_class)
        × (((i == 0) || ltb (slice_index ends (2 * i - 1)) first) ≡ true)
    range_tests =
        let begins : Bool = (i == 0) || ltb (slice_index ends (2 * i - 1)) first in
        let p = and_parts (leb first last && leb last b.last_class) begins (ends_parts.0 i range_low) in
        let q = and_parts (leb first last) (leb last b.last_class) p.0 in
        (leb-true first last q.0, leb-true last b.last_class q.1, p.1)

  module _ (i : ℕ) (h : i < length (next_ids row)) where
    id_low : i < count
    id_low = omega (arith, ap length next_ids_is, length-map-range_with_len (word_at order ids) 0 count)

    -- a next id by its place
    id_is : slice_index (next_ids row) i ≡ word_at order ids i
    id_is =
        let none : 0 + i ≡ i = omega arith in
        ap (λ t. slice_index t i) next_ids_is
        ∙ get_or-map-range_with_len (word_at order ids) 0 count i i 0 id_low none

  -- the row passed its tests
  row_tested : at + length bytes ≡ b.len → IsTestedRow b at row
  row_tested place = record {
    special = is.head.special;
    few = let most = head_parts.1 in omega (arith, length-ranges);
    ordered = λ i h.
        omega (arith, (range_tests i h).0, ap (λ r. r.first) (range_is i h), ap (λ r. r.last) (range_is i h));
    within = λ i h. omega (arith, (range_tests i h).1, ap (λ r. r.last) (range_is i h));
    rising = λ i h.
        let low : i < length row.ranges = omega arith in
        let before : 2 * (i + 1) - 1 ≡ 2 * i + 1 = omega arith in
        let here : ℕ = slice_index ends (2 * (i + 1)) in
        let p = or_cases (i + 1 == 0) (ltb (slice_index ends (2 * (i + 1) - 1)) here) (range_tests (i + 1) h).2 in
        let less : slice_index ends (2 * (i + 1) - 1) < here =
        ⊎_elim
        (λ (zero : (i + 1 == 0) ≡ true). absurd (omega (arith, eqb-true (i + 1) 0 zero)))
        (λ (lt : ltb (slice_index ends (2 * (i + 1) - 1)) here ≡ true).
        ltb-true (slice_index ends (2 * (i + 1) - 1)) here lt)
        p in
        grind (arith, common_steps, range_is);
    near = λ i h. omega (arith, id_is i h, is.ids.near i (id_low i h));
    next_ids = λ i h. omega (arith, id_is i h, is.ids.small i (id_low i h));
    matches = head_parts.2 ∙ sym is.patterns.some;
    few_patterns = patterns_few order is_match behind bytes_rest;
    patterns = is.patterns.small;
    known = is.patterns.known;
    needles = ap (may_have (is_accel_id b.special at)) length-needles ∙ is.needles.may;
    eoi = λ e. is.eoi (ap (word_at order ids) (sym n_is) ∙ e);
    next = let n = is.next in omega (arith, row_size);
  }

-- ---- a row that was read

-- what is true of a row that was read at a place, and of the bytes behind it
pub record IsPassedRow (b : Bounds) (at : ℕ) (bytes : List ℕ) (row : Row) (rest : List ℕ) : Type 0 where
  pub is : row ≡ row_in b.order bytes
  pub stands : bytes ≡ row_text b.order row ++ rest
  pub behind : rest ≡ drop (row_len row) bytes
  pub size : row_len row + length rest ≡ length bytes
  pub tested : at + length bytes ≡ b.len → IsTestedRow b at row

-- all of it, of a row that was read
pub passed_row : (b : Bounds) (at : ℕ) (bytes : List ℕ) (row : Row) (rest : List ℕ) → AreBytes bytes
    → row_at b at bytes ≡ Ok (row, rest) → IsPassedRow b at bytes row rest
passed_row b at bytes row rest are e =
    let is : IsReadRow b at bytes (row_in b.order bytes) rest =
    row_ok b at bytes (row_in b.order bytes) rest (e ∙ ap (λ r. Ok (r, rest)) (row_ok b at bytes row rest e).is) in
    subst (λ r. IsPassedRow b at bytes r rest) (sym (row_ok b at bytes row rest e).is)
    (record {
      is = refl;
      stands = row_stands b at bytes rest are is;
      behind = row_behind b at bytes rest are is;
      size = row_size b at bytes rest are is;
      tested = row_tested b at bytes rest are is;
    })

-- a tested row fits its bytes
pub fits_tested : {b : Bounds} {at : ℕ} {row : Row} → IsTestedRow b at row → FitsBytes row
fits_tested {b} {at} {row} is = grind (arith, common_steps)
