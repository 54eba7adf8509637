-- Marks of match rows: they stay true while they are made, and searches may go by them.
use Rattle.rx_spec.proofs.Prelude.{common_steps, ◌≡◌, ◌∙◌, ℕ, ◌+◌, ◌-◌, ◌*◌, ◌/◌, ◌%◌, ◌^◌, ◌<◌, ◌≤◌, ◌==◌, true, List}
use Rattle.rx_spec.proofs.Prelude.{[], ◌∷◌, ◌++◌, length, take, drop, slice_index, ap, sym, arith, length-drop}
use Rattle.rx_spec.proofs.Prelude.{length-take-le, length-append, get_or, nat_lt, mul-div_cancel, zero-div, list_all}
use Rattle.rx_spec.proofs.Prelude.{slice_range, get_or-drop, get_or-take, le-div, pow_pos, row_of, is_match}
use Rattle.rx_base.specs.ByteClasses.{alphabet_len}
use Rattle.rx_search.specs.Labels.{IsFinal, patterns_of}
use Rattle.rx_search.specs.Starts.{IsId}
use Rattle.rx_search.proofs.Halves.{some_pattern}
use Rattle.rx_dense.specs.Facts.{IsSoundLayout}
use Rattle.rx_dense.specs.Layouts.{Layout, AreLists, AreRows, column, ids_of, place_in_range, stride, table_of}
use Rattle.rx_dense.specs.Marks.{AreMarks, IsMark, first_pattern}
use Rattle.rx_dense.proofs.RowKinds.{match_first, match_patterns, pattern_ids}
use Rattle.rx_dense.proofs.Rows.{IsRowId-id, column_within, id-times, part_is, quotient, row-is_below}

-- ---- while they are made

module _ (words : List ℕ) (alphabet_len stride min_match : ℕ) (slices pattern_ids : List ℕ) where
  -- none are made
  pub unmarked : AreMarks words alphabet_len stride min_match slices pattern_ids []
  unmarked = record { aligned = λ some. absurd (omega arith); each = λ i below. absurd (omega arith) }

  -- one more is made
  pub marked_more : (marks : List ℕ) (mark : ℕ) → min_match % stride ≡ 0
      → AreMarks words alphabet_len stride min_match slices pattern_ids marks
      → IsMark words alphabet_len stride min_match slices pattern_ids (length marks) mark
      → AreMarks words alphabet_len stride min_match slices pattern_ids (marks ++ mark ∷ [])
  marked_more marks mark aligned are is = grind (arith, common_steps, length-append)

-- ---- rows that lead to the dead row

pub zeros_from : (words : List ℕ) (first len : ℕ) → first + len ≤ length words
    → list_all (λ id. id == 0) (slice_range words first (first + len)) ≡ true
    → (k : ℕ) → k < len → slice_index words (first + k) ≡ 0
zeros_from words first len fits all k below =
    let part = take len (drop first words) in
    let zeros = rw (part_is words first len) at all in
    sym (get_or-take len (drop first words) k 0 below ∙ get_or-drop first words k 0)
    ∙ (grind (arith, common_steps, length-take-le len (drop first words) (simp length-drop (omega arith))))

-- ---- what they say to a search

-- a multiple of the stride, from another one on
from_first : (s first id : ℕ) → 0 < s → first % s ≡ 0 → id % s ≡ 0 → first ≤ id → first + (id - first) / s * s ≡ id
from_first s first id some whole_first whole order =
    let a = quotient id s whole in
    let below : first / s ≤ id / s = le-div (first / s) id s some (omega arith) in
    let joined : id / s - first / s + first / s ≡ id / s = omega arith in
    let again = ap (λ (x : ℕ). x * s) joined in
    let rows : (id - first) / s ≡ id / s - first / s =
    ap (λ (x : ℕ). x / s) (omega arith) ∙ mul-div_cancel (id / s - first / s) some in
    omega (arith, quotient first s whole_first, (ap (λ (x : ℕ). x * s) rows))

-- the marks of a layout
abbrev pub HasMarks : Layout → List ℕ → Type 0
HasMarks l marks = AreMarks l.words (alphabet_len l.classes) (stride l) l.special.min_match l.slices l.pattern_ids marks

-- the mark of a row, as it is looked up
pub record Found (l : Layout) (marks : List ℕ) (id mark : ℕ) : Type 0 where
  pub has : place_in_range l l.special.min_match id < length marks
  pub mark_is : mark ≡ slice_index marks (place_in_range l l.special.min_match id)

pub found : (l : Layout) (marks : List ℕ) (id : ℕ) {place mark : ℕ} {words : List ℕ}
    → place ≡ place_in_range l l.special.min_match id → words ≡ marks → nat_lt place (length words) ≡ true
    → mark ≡ get_or words place mark → Found l marks id mark
found l marks id {place} {mark} {words} here same some is = grind (arith, common_steps)

module _ (l : Layout) (id : ℕ) (is : IsId (ids_of l) id) (sound : IsSoundLayout l)
    (e : is_match (table_of l) (row_of (ids_of l) id) ≡ true) {marks : List ℕ}
    (are : HasMarks l marks) (has : place_in_range l l.special.min_match id < length marks) where
  abbrev i : ℕ
  i = place_in_range l l.special.min_match id

  pub mark_first : AreLists l
      → slice_index marks (place_in_range l l.special.min_match id) % 2 ^ 31
      ≡ slice_index (patterns_of (table_of l) (row_of (ids_of l) id)) 0
  mark_first lists =
      let row = row_of (ids_of l) id in
      let some : 0 < length (patterns_of (table_of l) row) =
      some_pattern (record { sound = sound; below = row-is_below l id is }) e in
      let same = match_patterns l id is e in
      let here = (grind (arith, common_steps))
      ∙ ap (λ (ks : List ℕ). slice_index ks 0) (sym same) in
      let first : first_pattern l.slices l.pattern_ids i ≡ slice_index (patterns_of (table_of l) row) 0 =
      ap (slice_index l.pattern_ids) (let none : slice_index l.slices (2 * i) ≡ slice_index l.slices (2 * i) + 0 =
      omega arith in none) ∙ here in
      (are.each i has).first (omega (arith, pattern_ids l id is sound lists e 0 some)) ∙ first

  pub mark_final : AreRows l → 2 ^ 31 ≤ slice_index marks (place_in_range l l.special.min_match id)
      → IsFinal (table_of l) (row_of (ids_of l) id)
  mark_final rows final = record {
    to_dead = λ unit below.
        let there : l.special.min_match + i * stride l ≡ id =
        from_first (stride l) l.special.min_match id (pow_pos l.stride2)
        (are.aligned (omega arith)) (IsRowId-id l id is).whole (match_first l id is e) in
        let zero = (are.each i has).final final (column l unit) (column_within l rows.classes unit below) in
        ap (λ (x : ℕ). slice_index l.words (x + (column l unit)) / stride l) (id-times l id is ∙ sym there)
        ∙ ap (λ (x : ℕ). x / stride l) zero
        ∙ zero-div (stride l);
  }
