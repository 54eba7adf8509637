-- The bytes of rows: how many there are, and that they are read back, whatever follows.
use Rattle.rx_spec.proofs.Prelude.{common_steps, ◌≡◌, ℕ, zero, suc, ◌+◌, ◌-◌, ◌*◌, ◌/◌, ◌%◌, ◌^◌, ◌<◌, ◌≤◌, Bool, true}
use Rattle.rx_spec.proofs.Prelude.{false, cond, List, [], ◌∷◌, ◌++◌, length, take, drop, map, get_or, slice_index}
use Rattle.rx_spec.proofs.Prelude.{nat_le, refl, ap, ap₂, sym, ◌∙◌, subst, append_assoc, length-drop, arith, flat_map}
use Rattle.rx_spec.proofs.Prelude.{range_with_len, w16, w32, drop_at, take_at, length-append, length-map, fill_by_all}
use Rattle.rx_spec.proofs.Prelude.{nat_tests}
use Rattle.std.proofs.lemmas.List.{get_or-append-add}
use Rattle.rx_wire.specs.declared.order.Order.{Order}
use Rattle.rx_wire.specs.Fields.{field, number}
use Rattle.rx_wire.proofs.Fields.{again16, again32, length-field_16, length-field_32}
use Rattle.rx_wire.proofs.Words.{length-words, word_alone, words_again}
use Rattle.rx_sparse.specs.declared.ranges.ClassRange.{ClassRange}
use Rattle.rx_sparse.specs.Rows.{Row, behind_ends, count_in, ends_in, ends_text, head_number, is_match_in, is_some_list}
use Rattle.rx_sparse.specs.Rows.{next_ids, needles_in, next_ids_in, no_range, no_row, patterns_in, patterns_len}
use Rattle.rx_sparse.specs.Rows.{patterns_text, range_in, rest_in, row_in, row_len, row_text, rows_in, rows_len}
use Rattle.rx_sparse.specs.Rows.{rows_text, word_at, words_in, words_text}
use Rattle.rx_sparse.specs.Parts.{FitsBytes, IsDecoded, IsWholeRow}

-- ---- lengths

abbrev pub pairs_text : List ClassRange → List ℕ
pairs_text ranges = flat_map (λ range. range.first ∷ range.last ∷ []) ranges

length-pairs : (ranges : List ClassRange) → length (pairs_text ranges) ≡ 2 * length ranges
length-pairs [] = refl
length-pairs (range ∷ ranges) = omega (arith, length-pairs ranges)

pub length-ends : (ranges : List ClassRange) → length (ends_text ranges) ≡ 2 * (length ranges + 1)
length-ends ranges = omega (arith, length-append (pairs_text ranges) (0 ∷ 0 ∷ []), length-pairs ranges)

pub length-next_ids : (row : Row) → length (next_ids row) ≡ length row.ranges + 1
length-next_ids row = grind (arith, common_steps, length-append, length-map)

abbrev pub patterns_size : List ℕ → ℕ
patterns_size patterns = cond (is_some_list patterns) (4 + 4 * length patterns) 0

pub length-patterns : (order : Order) (patterns : List ℕ)
    → length (patterns_text order patterns) ≡ patterns_size patterns
length-patterns order [] = refl
length-patterns order (k ∷ ks) = grind (arith, common_steps, length-append, length-field_32, length-words)

pub length-row : (order : Order) (row : Row) → length (row_text order row) ≡ row_len row
length-row order row =
    grind (
      arith,
      common_steps,
      length-append,
      length-field_16,
      length-ends,
      length-words,
      length-next_ids,
      length-patterns,
    )

pub length-rows : (order : Order) (rows : List Row) → length (rows_text order rows) ≡ rows_len rows
unfolding rows_len
length-rows order [] = refl
length-rows order (row ∷ rows) =
    omega (
      arith,
      length-append (row_text order row) (rows_text order rows),
      length-row order row,
      length-rows order rows,
    )

-- ---- ranges

end_first : (ranges : List ClassRange) (rest : List ℕ) (i : ℕ) → i < length ranges
    → slice_index (pairs_text ranges ++ rest) (2 * i) ≡ (get_or ranges i no_range).first
end_first [] rest i h = elim h [ ]
end_first (range ∷ ranges) rest zero h = refl
end_first (range ∷ ranges) rest (suc i) h =
    let place : 2 * suc i ≡ suc (suc (2 * i)) = omega arith in
    ap (slice_index (pairs_text (range ∷ ranges) ++ rest)) place ∙ end_first ranges rest i (omega arith)

end_last : (ranges : List ClassRange) (rest : List ℕ) (i : ℕ) → i < length ranges
    → slice_index (pairs_text ranges ++ rest) (2 * i + 1) ≡ (get_or ranges i no_range).last
end_last [] rest i h = elim h [ ]
end_last (range ∷ ranges) rest zero h = refl
end_last (range ∷ ranges) rest (suc i) h =
    let place : 2 * suc i + 1 ≡ suc (suc (2 * i + 1)) = omega arith in
    ap (slice_index (pairs_text (range ∷ ranges) ++ rest)) place ∙ end_last ranges rest i (omega arith)

pub next_there : (ranges : List ClassRange) (rest : List ℕ) (i : ℕ) → i < length ranges
    → slice_index (map (λ range. range.next) ranges ++ rest) i ≡ (get_or ranges i no_range).next
next_there [] rest i h = elim h [ ]
next_there (range ∷ ranges) rest zero h = refl
next_there (range ∷ ranges) rest (suc i) h = next_there ranges rest i (omega arith)

pub eoi_there : (ranges : List ClassRange) (eoi : ℕ)
    → slice_index (map (λ range. range.next) ranges ++ eoi ∷ []) (length ranges) ≡ eoi
eoi_there [] eoi = refl
eoi_there (range ∷ ranges) eoi = eoi_there ranges eoi

of_parts : (range : ClassRange) (first last next : ℕ) → first ≡ range.first → last ≡ range.last → next ≡ range.next
    → range ≡ record { first = first; last = last; next = next }
of_parts range first last next a b c = rw (a, b, c) refl

-- ---- a row

pub counted : (n : ℕ) (some : Bool) → n ≤ 257 → (n + cond some 32768 0) % 32768 ≡ n
counted n true h = omega arith
counted n false h = omega arith

pub told : (n : ℕ) (some : Bool) → n ≤ 257 → nat_le 32768 (n + cond some 32768 0) ≡ some
told n true h = grind (arith, nat_tests)
told n false h = grind (arith, nat_tests)

pub fits_16 : (n : ℕ) (some : Bool) → n ≤ 257 → n + cond some 32768 0 < 2 ^ 16
fits_16 n true h = omega arith
fits_16 n false h = omega arith

module _ (order : Order) (row : Row) (rest : List ℕ) (fits : FitsBytes row) where
  abbrev count : ℕ
  count = length row.ranges + 1

  abbrev some : Bool
  some = is_some_list row.patterns

  abbrev text : List ℕ
  text = row_text order row ++ rest

  abbrev head : List ℕ
  head = field order w16 (head_number row)

  abbrev ids : List ℕ
  ids = words_text order (next_ids row)

  -- what follows the ids
  abbrev behind : List ℕ
  behind = patterns_text order row.patterns ++ ((length row.needles ∷ row.needles) ++ rest)

  few : count ≤ 257
  few = let h = fits.few in omega arith

  by_one : text ≡ head ++ (ends_text row.ranges ++ (ids ++ behind))
  by_one = simp append_assoc refl

  head_is : number order w16 (take 2 text) ≡ head_number row
  head_is = grind (arith, common_steps, by_one, take_at, length-field_16, again16, fits_16, few)

  pub count_is : count_in order text ≡ count
  count_is = ap (λ n. n % 32768) head_is ∙ counted count some few

  pub matches_is : is_match_in order text ≡ some
  matches_is = ap (nat_le 32768) head_is ∙ told count some few

  pub ends_is : ends_in order text ≡ ends_text row.ranges
  ends_is = grind (arith, common_steps, count_is, by_one, drop_at, length-field_16, take_at, length-ends)

  ids_there : behind_ends order text ≡ ids ++ behind
  ids_there = grind (arith, common_steps, count_is, by_one, length-field_16, drop_at, length-ends)

  length-ids : length ids ≡ 4 * count
  length-ids = omega (arith, length-words order (next_ids row), length-next_ids row)

  pub ids_is : next_ids_in order text ≡ ids
  ids_is = ap₂ (λ n t. take (4 * n) t) count_is ids_there ∙ take_at ids behind (4 * count) length-ids

  pub rest_is : rest_in order text ≡ behind
  rest_is = ap₂ (λ n t. drop (4 * n) t) count_is ids_there ∙ drop_at ids behind (4 * count) length-ids

-- ---- patterns and needles

patterns_read : (order : Order) (patterns rest : List ℕ) → length patterns < 2 ^ 32
    → ((i : ℕ) → i < length patterns → slice_index patterns i < 2 ^ 32)
    → patterns_in order (is_some_list patterns) (patterns_text order patterns ++ rest) ≡ patterns
patterns_read order [] rest short small = refl
patterns_read order (k ∷ ks) rest short small =
    let n : ℕ = length (k ∷ ks) in
    let text : List ℕ = patterns_text order (k ∷ ks) ++ rest in
    let words : List ℕ = words_text order (k ∷ ks) ++ rest in
    let grouped : text ≡ field order w32 n ++ words =
    append_assoc (field order w32 n) (words_text order (k ∷ ks)) rest in
    let count : word_at order text 0 ≡ n =
    ap (λ t. number order w32 (take 4 t)) grouped
    ∙ ap (number order w32) (take_at (field order w32 n) words 4 (length-field_32 order n))
    ∙ again32 order n short in
    let behind : drop 4 text ≡ words =
    ap (drop 4) grouped ∙ drop_at (field order w32 n) words 4 (length-field_32 order n) in
    ap₂ (λ m t. words_in order m t) count behind ∙ words_again order (k ∷ ks) rest small

patterns_end : (order : Order) (patterns rest : List ℕ) → length patterns < 2 ^ 32
    → patterns_len order (is_some_list patterns) (patterns_text order patterns ++ rest) ≡ patterns_size patterns
patterns_end order [] rest short = refl
patterns_end order (k ∷ ks) rest short = grind (arith, common_steps, append_assoc, take_at, length-field_32, again32)

needles_read : (needles rest : List ℕ) → needles_in (length needles ∷ (needles ++ rest)) ≡ needles
needles_read needles rest = take_at needles rest (length needles) refl

-- ---- a row, of its parts

module _ (order : Order) (row : Row) (rest : List ℕ) (fits : FitsBytes row) where
  abbrev next_words : List ℕ
  next_words = words_text order (next_ids row)

  abbrev read_behind : List ℕ
  read_behind = patterns_text order row.patterns ++ ((length row.needles ∷ row.needles) ++ rest)

  n_is : length (ends_text row.ranges) / 2 - 1 ≡ length row.ranges
  n_is = omega (arith, length-ends row.ranges)

  next_word : (i : ℕ) → i < length (next_ids row) → word_at order next_words i ≡ slice_index (next_ids row) i
  next_word i h = word_alone order (next_ids row) i h (let small = fits.next_ids i h in omega arith)

  range_is : (i : ℕ) → i < length row.ranges
      → get_or row.ranges i no_range ≡ range_in order (ends_text row.ranges) next_words i
  range_is i h = grind (arith, common_steps, length-next_ids, of_parts, end_first, end_last, next_word, next_there)

  ranges_are : map (range_in order (ends_text row.ranges) next_words)
      (range_with_len 0 (length (ends_text row.ranges) / 2 - 1))
      ≡ row.ranges
  ranges_are =
      sym (fill_by_all (range_in order (ends_text row.ranges) next_words) row.ranges
      (length (ends_text row.ranges) / 2 - 1) no_range (sym n_is)
      (λ k h. range_is k (omega (arith, n_is))))

  eoi_is : word_at order next_words (length (ends_text row.ranges) / 2 - 1) ≡ row.eoi
  eoi_is = grind (arith, common_steps, n_is, next_word, length-next_ids, eoi_there)

  pub patterns_are : patterns_in order (is_some_list row.patterns) read_behind ≡ row.patterns
  patterns_are = grind (arith, common_steps, patterns_read)

  -- what follows the patterns
  needles_there : drop (patterns_len order (is_some_list row.patterns) read_behind) read_behind
      ≡ length row.needles ∷ (row.needles ++ rest)
  needles_there = grind (arith, common_steps, patterns_end, drop_at, length-patterns)

  -- a row is read back, whatever follows
  pub row_again : row_in order (row_text order row ++ rest) ≡ row
  row_again =
      grind (
        arith,
        common_steps,
        matches_is,
        ends_is,
        ids_is,
        rest_is,
        ranges_are,
        eoi_is,
        patterns_are,
        needles_there,
        needles_read,
      )

  parts_decoded : IsDecoded order (is_some_list row.patterns) (ends_text row.ranges) next_words read_behind
  parts_decoded =
      grind (
        arith,
        common_steps,
        length-ends,
        length-words,
        length-next_ids,
        next_word,
        length-patterns,
        get_or-append-add,
        length-append,
        patterns_end,
        few,
        patterns_are,
      )

  -- a row is decoded, whatever follows
  pub decoded : IsDecoded order (is_match_in order (row_text order row ++ rest))
      (ends_in order (row_text order row ++ rest)) (next_ids_in order (row_text order row ++ rest))
      (rest_in order (row_text order row ++ rest))
  decoded = grind (arith, common_steps, matches_is, ends_is, ids_is, rest_is, parts_decoded)

  pub long_enough : 2 + 6 * count_in order (row_text order row ++ rest) ≤ length (row_text order row ++ rest)
  long_enough = grind (arith, common_steps, count_is, length-append, length-row)

-- of a whole row at the front of bytes
pub whole_decoded : {order : Order} {bytes : List ℕ} → IsWholeRow order bytes
    → IsDecoded order (is_match_in order bytes) (ends_in order bytes) (next_ids_in order bytes) (rest_in order bytes)
whole_decoded {order} {bytes} whole =
    subst (λ t. IsDecoded order (is_match_in order t) (ends_in order t) (next_ids_in order t) (rest_in order t))
    (sym whole.stands) (decoded order (row_in order bytes) whole.rest whole.fits)

pub whole_long : {order : Order} {bytes : List ℕ} → IsWholeRow order bytes
    → 2 + 6 * count_in order bytes ≤ length bytes
whole_long {order} {bytes} whole =
    subst (λ t. 2 + 6 * count_in order t ≤ length t)
    (sym whole.stands) (long_enough order (row_in order bytes) whole.rest whole.fits)

pub whole_ends : {order : Order} {bytes : List ℕ} → IsWholeRow order bytes
    → 2 * count_in order bytes ≤ length (drop 2 bytes)
whole_ends {order} {bytes} whole = omega (arith, whole_long whole, length-drop 2 bytes)

pub whole_ids : {order : Order} {bytes : List ℕ} → IsWholeRow order bytes
    → 4 * count_in order bytes ≤ length (behind_ends order bytes)
whole_ids {order} {bytes} whole = grind (arith, common_steps, whole_long, length-drop)

-- rows are read back
pub rows_again : (order : Order) (rows : List Row) → ((i : ℕ) → i < length rows → FitsBytes (get_or rows i no_row))
    → rows_in order (length rows) (rows_text order rows) ≡ rows
unfolding rows_in
rows_again order [] fit = refl
rows_again order (row ∷ rows) fit =
    let rest : List ℕ = rows_text order rows in
    let first : row_in order (row_text order row ++ rest) ≡ row = row_again order row rest (fit 0 (omega arith)) in
    let behind : drop (row_len (row_in order (row_text order row ++ rest))) (row_text order row ++ rest) ≡ rest =
    ap (λ r. drop (row_len r) (row_text order row ++ rest)) first
    ∙ drop_at (row_text order row) rest (row_len row) (length-row order row) in
    ap₂ (λ r t. r ∷ rows_in order (length rows) t) first behind
    ∙ ap (λ rs. row ∷ rs) (rows_again order rows (λ i h. fit (suc i) (omega arith)))
