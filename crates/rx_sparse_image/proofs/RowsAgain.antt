-- Rows that can pass the tests are read again from their bytes.
use Rattle.rx_spec.proofs.Prelude.{common_steps, [], ◌≡◌, ℕ, zero, suc, ◌+◌, ◌-◌, ◌*◌, ◌^◌, ◌<◌, ◌≤◌, Bool, true, false}
use Rattle.rx_spec.proofs.Prelude.{◌||◌, ◌==◌, ltb, List, ◌∷◌, ◌++◌, length, get_or, slice_index, Ok, refl, ap, ap₂}
use Rattle.rx_spec.proofs.Prelude.{sym, ◌∙◌, append_assoc, arith, w16, w32, and_from, le-leb, lt-ltb, ne_eqb, or_right}
use Rattle.rx_spec.proofs.Prelude.{length-append, max_id, id_of}
use Rattle.rx_wire.specs.declared.order.Order.{Order}
use Rattle.rx_wire.specs.Fields.{bytes_at, field}
use Rattle.rx_wire.specs.Kinds.{Kind}
use Rattle.rx_wire.proofs.Fields.{bytes_again, u16_again, u32_again}
use Rattle.rx_dense.specs.Specials.{is_accel_id}
use Rattle.rx_image_parts.proofs.EachBelow.{all_of}
use Rattle.rx_image_parts.proofs.ReadAgain.{regrouped}
use Rattle.rx_wire.proofs.Words.{length-words, word_alone}
use Rattle.rx_sparse.specs.Rows.{Row, ends_in, ends_text, head_number, is_some_list, next_ids, no_range, no_row}
use Rattle.rx_sparse.specs.Rows.{next_ids_in, offsets_from, patterns_text, range_in, row_in, row_len, row_text}
use Rattle.rx_sparse.specs.Rows.{rows_len, rows_text, word_at, words_text}
use Rattle.rx_sparse.proofs.DecodedRows.{range_is}
use Rattle.rx_sparse.proofs.RowTexts.{ends_is, length-ends, length-next_ids, length-row, length-rows, counted}
use Rattle.rx_sparse.proofs.RowTexts.{row_again, told}
use Rattle.rx_sparse_image.specs.declared.rows.Bounds.{Bounds}
use Rattle.rx_sparse_image.specs.Tested.{IsTestedRow}
use Rattle.rx_sparse_image.specs.Walks.{after_patterns_if, ends_at, head_at, is_match_head, is_range_at, needles_at}
use Rattle.rx_sparse_image.specs.Walks.{next_ids_at, range_count, row_at, rows_from, tested, tested_next}
use Rattle.rx_sparse_image.proofs.PassedRows.{none_left, row_first}
use Rattle.rx_sparse_image.proofs.Passes.{next_ids_pass, patterns_pass}
use Rattle.rx_sparse_image.proofs.TestedRows.{fits_tested}

-- ---- tests that are passed

-- a number that passes a test
pass : (holds : Bool) (kind : Kind) (n : ℕ) → holds ≡ true → tested holds kind n ≡ Ok n
pass true kind n h = refl
pass false kind n h = absurd cc

-- ---- words

-- so many bytes at the front
front_there : (front rest : List ℕ) (count : ℕ) → length front ≡ count
    → bytes_at count (front ++ rest) ≡ Ok (front, rest)
front_there front rest count e = ap (λ n. bytes_at n (front ++ rest)) (sym e) ∙ bytes_again front rest

-- the steps of a row, one after another
record AreSteps (b : Bounds) (at : ℕ) (bytes : List ℕ) : Type 0 where
  pub head : ℕ × List ℕ
  pub ends : List ℕ × List ℕ
  pub ids : List ℕ × List ℕ
  pub rest : List ℕ
  pub needles : List ℕ × List ℕ
  pub head_read : head_at b at bytes ≡ Ok head
  pub ends_read : ends_at b (range_count head.0) head.1 ≡ Ok ends
  pub ids_read : next_ids_at b (range_count head.0) ends.1 ≡ Ok ids
  pub rest_read : after_patterns_if b (is_match_head head.0) ids.1 ≡ Ok rest
  pub needles_read : needles_at (is_accel_id b.special at) rest ≡ Ok needles
  -- the end mark and the next row pass
  pub next_passes : tested_next b (word_at b.order ids.0 (range_count head.0 - 1)) (b.len - length needles.1)
      ≡ Ok (b.len - length needles.1)

steps_pass : {b : Bounds} {at : ℕ} {bytes : List ℕ} (s : AreSteps b at bytes)
    → row_at b at bytes ≡ Ok (row_in b.order bytes, s.needles.1)
unfolding row_at
steps_pass s = grind (arith, common_steps)

-- ---- a row

module _ (b : Bounds) (at : ℕ) (row : Row) (is : IsTestedRow b at row) where
  abbrev order : Order
  order = b.order

  abbrev count : ℕ
  count = length row.ranges + 1

  abbrev n : ℕ
  n = head_number row

  -- no more ranges than a row may have, with that of the end mark
  few : count ≤ 257
  few = let most = is.few in omega arith

  -- the head is read again
  head_again : (rest : List ℕ) → head_at b at (field order w16 n ++ rest) ≡ Ok (n, rest)
  unfolding head_at
  head_again rest = grind (arith, common_steps, u16_again)

  -- ---- ends

  abbrev ends : List ℕ
  ends = ends_text row.ranges

  abbrev ids : List ℕ
  ids = words_text order (next_ids row)

  abbrev alone : List ℕ
  alone = row_text order row ++ []

  -- the ends of a range by its place
  range_there : (i : ℕ) → i < length row.ranges
      → (slice_index ends (2 * i) ≡ (get_or row.ranges i no_range).first)
      × (slice_index ends (2 * i + 1) ≡ (get_or row.ranges i no_range).last)
  range_there i h =
      let again : row_in order alone ≡ row = row_again order row [] (fits_tested is) in
      let same : range_in order (ends_in order alone) (next_ids_in order alone) i ≡ get_or row.ranges i no_range =
      range_is order (ends_in order alone) (next_ids_in order alone) i h (ap (λ r. r.ranges) again) in (
        ap (λ e. slice_index e (2 * i)) (sym (ends_is order row [] (fits_tested is))) ∙ ap (λ r. r.first) same,
        ap (λ e. slice_index e (2 * i + 1)) (sym (ends_is order row [] (fits_tested is))) ∙ ap (λ r. r.last) same,
      )

  -- it passes its test
  range_may : (i : ℕ) → i < count - 1 → is_range_at b.last_class ends i ≡ true
  range_may i h =
      let low : i < length row.ranges = omega arith in
      let here = range_there i low in
      let first : ℕ = slice_index ends (2 * i) in
      let begins : Bool = (i == 0) || ltb (slice_index ends (2 * i - 1)) first in
      grind (arith, common_steps, and_from, le-leb, behind)
    where
      behind : (i : ℕ) → i < length row.ranges
          → ((i == 0) || ltb (slice_index ends (2 * i - 1)) (slice_index ends (2 * i))) ≡ true
      behind zero h = refl
      behind (suc i) h =
          let place : 2 * suc i - 1 ≡ 2 * i + 1 = omega arith in
          let more : i + 1 ≡ suc i = omega arith in
          or_right (suc i == 0) (ltb (slice_index ends (2 * suc i - 1)) (slice_index ends (2 * suc i)))
          (lt-ltb (slice_index ends (2 * suc i - 1)) (slice_index ends (2 * suc i))
          (omega (
            arith,
            ap (slice_index ends) place,
            (range_there i (omega arith)).1,
            (range_there (suc i) h).0,
            ap (λ k. (get_or row.ranges k no_range).first) more,
            is.rising i (omega (arith, slice_index ends (2 * i + 1))),
          )))

  -- the ends are read again
  ends_again : (rest : List ℕ) → ends_at b count (ends ++ rest) ≡ Ok (ends, rest)
  unfolding ends_at
  ends_again rest = grind (arith, common_steps, and_from, all_of, range_may, front_there, length-ends row.ranges)

  -- ---- next ids

  -- a next id by its place
  id_there : (k : ℕ) → k < count → word_at order ids k ≡ slice_index (next_ids row) k
  id_there k h =
      let low : k < length (next_ids row) = omega (arith, length-next_ids row) in
      word_alone order (next_ids row) k low (omega arith)

  -- the next ids are read again
  ids_again : (rest : List ℕ) → next_ids_at b count (ids ++ rest) ≡ Ok (ids, rest)
  ids_again rest = grind (arith, common_steps, next_ids_pass, front_there, length-words, id_there)

  -- ---- patterns

  -- the patterns are read again
  patterns_again : (rest : List ℕ)
      → after_patterns_if b (is_some_list row.patterns) (patterns_text order row.patterns ++ rest) ≡ Ok rest
  patterns_again rest = by_list row.patterns is.few_patterns is.patterns is.known
    where
      by_list : (ks : List ℕ) → length ks < 2 ^ 32 → ((i : ℕ) → i < length ks → slice_index ks i ≤ max_id)
          → ((i : ℕ) → i < length ks → slice_index ks i < b.pattern_len)
          → after_patterns_if b (is_some_list ks) (patterns_text order ks ++ rest) ≡ Ok rest
      by_list [] short small known = refl
      by_list (k ∷ ks) short small known =
          let all : List ℕ = k ∷ ks in
          let words : List ℕ = words_text order all in
          ap (after_patterns_if b true) (append_assoc (field order w32 (length all)) words rest)
          ∙ patterns_pass b (length all) (field order w32 (length all) ++ (words ++ rest)) (words ++ rest) words rest
          (rw (ne_eqb (length all) 0 (λ e. (omega arith))) refl)
          (u32_again order (length all) short (words ++ rest))
          (front_there words rest (4 * length all) (length-words order all))
          (λ i h.
          let id : ℕ = word_at order words i in
          let here : id ≡ slice_index all i = word_alone order all i h (omega arith) in
          (rw ((le-leb id max_id (omega arith)), (lt-ltb id b.pattern_len (omega arith))) refl))

  -- ---- needles

  -- the needles are read again
  needles_again : (rest : List ℕ)
      → needles_at (is_accel_id b.special at) ((length row.needles ∷ row.needles) ++ rest) ≡ Ok (row.needles, rest)
  unfolding needles_at
  needles_again rest = grind (arith, common_steps, bytes_again)

  -- ---- the row

  next_passes : (next : ℕ) → next ≤ max_id → tested_next b (word_at order ids (count - 1)) next ≡ Ok next
  next_passes next h = grind (arith, common_steps, id_there)

  -- the row is read again, whatever follows
  row_read : (rest : List ℕ) → at + row_len row + length rest ≡ b.len
      → row_at b at (row_text order row ++ rest) ≡ Ok (row, rest)
  row_read rest place =
      let needles : List ℕ = length row.needles ∷ row.needles in
      let t4 : List ℕ = needles ++ rest in
      let t3 : List ℕ = patterns_text order row.patterns ++ t4 in
      let t2 : List ℕ = ids ++ t3 in
      let t1 : List ℕ = ends ++ t2 in
      let bytes : List ℕ = row_text order row ++ rest in
      let parts : bytes ≡ field order w16 n ++ t1 =
      regrouped (field order w16 n) ends ids (patterns_text order row.patterns) needles rest in
      let next : ℕ = b.len - length rest in
      let steps : AreSteps b at bytes = record {
        head = (n, t1);
        ends = (ends, t2);
        ids = (ids, t3);
        rest = t4;
        needles = (row.needles, rest);
        head_read = ap (head_at b at) parts ∙ head_again t1;
        ends_read = ap (λ c. ends_at b c t1) (counted count (is_some_list row.patterns) few) ∙ ends_again t2;
        ids_read = ap (λ c. next_ids_at b c t2) (counted count (is_some_list row.patterns) few) ∙ ids_again t3;
        rest_read = ap (λ m. after_patterns_if b m t3) (told count (is_some_list row.patterns) few) ∙ patterns_again t4;
        needles_read = needles_again rest;
        next_passes =
            ap (λ c. tested_next b (word_at order ids (c - 1)) next) (counted count (is_some_list row.patterns) few) ∙
            next_passes next (omega (arith, is.next));
      } in
      steps_pass steps
      ∙ ap (λ r. Ok (r, rest)) (row_again order row rest (fits_tested is))

-- ---- all rows

-- rows from one on are read again
pub rows_read : (b : Bounds) (at : ℕ) (rows : List Row) (most : ℕ) → length rows ≤ most → at + rows_len rows ≡ b.len
    → ((i : ℕ) → i < length rows → IsTestedRow b (id_of (offsets_from at rows) i) (get_or rows i no_row))
    → rows_from b most (rows_text b.order rows) ≡ Ok rows
unfolding offsets_from rows_len
rows_read b at [] most h place each = none_left b most
rows_read b at (row ∷ rows) zero h place each = absurd (omega arith)
rows_read b at (row ∷ rows) (suc most) h place each =
    let rest : List ℕ = rows_text b.order rows in
    let size : length (row_text b.order row ++ rest) ≡ row_len row + rows_len rows =
    length-append (row_text b.order row) rest
    ∙ ap₂ (λ m n. m + n) (length-row b.order row) (length-rows b.order rows) in
    let first : row_at b at (row_text b.order row ++ rest) ≡ Ok (row, rest) =
    row_read b at row (each 0 (omega arith)) rest (omega (arith, length-rows b.order rows)) in
    let behind : rows_from b most rest ≡ Ok rows =
    rows_read b (at + row_len row) rows most (omega arith) (omega arith) (λ i l. each (suc i) (omega arith)) in
    grind (arith, common_steps, row_first)
