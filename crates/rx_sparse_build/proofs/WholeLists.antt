-- The lists of patterns of a sound table's match rows pass the tests of an image's lists.
use Rattle.rx_spec.proofs.Prelude.{common_steps, ◌≡◌, ℕ, suc, ◌+◌, ◌*◌, ◌/◌, ◌%◌, ◌^◌, ◌<◌, ◌≤◌, Bool, true, false, ltb}
use Rattle.rx_spec.proofs.Prelude.{List, [], ◌∷◌, length, get_or, slice_index, refl, ap, subst, ◌∙◌, arith, inl, inr}
use Rattle.rx_spec.proofs.Prelude.{if◌then◌else◌, concat, list_all, and_parts, cases_eq, eq-eqb, lt-ltb, ltb-true}
use Rattle.rx_spec.proofs.Prelude.{ne_eqb, and_from, nil_from_length, Contains-get_or, get_or-map-range_with_len}
use Rattle.rx_spec.proofs.Prelude.{length-map-range_with_len, Label, IsSound}
use Rattle.std.proofs.lemmas.List.Folds.{list_all-append}
use Rattle.rx_dense.specs.Layouts.{AreLists, IsShaped, Layout, label_of_id, patterns_at, stride, table_of}
use Rattle.rx_dense.proofs.PatternLists.{length-slices_from}
use Rattle.rx_dense.proofs.RowKinds.{patterns_len}
use Rattle.rx_order.specs.RowOrder.{AreJoined, IsRange, match_count, match_lists}
use Rattle.rx_order.proofs.KindNumbers.{at_most}
use Rattle.rx_dense_image.specs.PatternLists.{AreReadLists}
use Rattle.rx_dense_image.specs.Closing.{is_list, lists_stand}
use Rattle.rx_dense_image.specs.Images.{pattern_lists_of}
use Rattle.rx_image_parts.proofs.EachBelow.{each_at, all_of}
use Rattle.rx_image_parts.proofs.ReadAgain.{words_below}
use Rattle.rx_sparse_build.proofs.Places.{all_places}
use Rattle.rx_sparse_build.proofs.RangeRows.{IsRowAt, range_at}

-- the label of a match row
matches_where : (m q : Bool) (ks : List ℕ) → m ≡ true
    → (if m then Label.Matches ks else (if q then Label.Quits else Label.Plain)) ≡ Label.Matches ks
matches_where true q ks e = refl
matches_where false q ks e = absurd cc

module _ (l : Layout) (shaped : IsShaped l) (sound : IsSound (table_of l)) (matches : IsRange l l.special.min_match
    l.special.max_match) (joined : AreJoined l) where
  abbrev lists : AreLists l
  lists = shaped.lists

  count : length l.slices ≡ 2 * match_count l
  count = grind (arith, common_steps, length-slices_from, length-map-range_with_len)

  row_at : (i : ℕ) → i < match_count l
      → IsRowAt l l.special.min_match l.special.max_match i (l.special.min_match / stride l + i)
  row_at i lt = range_at l l.special.min_match l.special.max_match matches i lt

  label_at : (i : ℕ) → i < match_count l
      → label_of_id l ((l.special.min_match / stride l + i) * stride l) ≡ Label.Matches (patterns_at l i)
  label_at i lt = grind (arith, common_steps, row_at, matches_where)

  -- the list of each match row
  list_passes : (i : ℕ) → i < match_count l → is_list l i ≡ true
  list_passes i lt =
      let row : ℕ = l.special.min_match / stride l + i in
      let first : ℕ = slice_index l.slices (2 * i) in
      let len : ℕ = slice_index l.slices (2 * i + 1) in
      let below = (row_at i lt).below in
      let label = label_at i lt in
      let within : 2 * i + 1 < length l.slices = omega (arith, count, lt) in
      let own : length (patterns_at l i) ≡ len = patterns_len l lists i within in
      let ends = lists.within i within in
      let other : len ≡ 0 → ⊥ =
      λ e. sound.is_table.lists row below (label ∙ ap Label.Matches (nil_from_length (patterns_at l i) (own ∙ e))) in
      let begins : first < length l.pattern_ids = begins_of first len (length l.pattern_ids) ends other in
      let known : list_all (λ pattern. ltb pattern l.pattern_len) (patterns_at l i) ≡ true =
      all_places (λ pattern. ltb pattern l.pattern_len) (patterns_at l i)
      (λ k h.
      lt-ltb _ _
      (sound.patterns row (patterns_at l i) (get_or (patterns_at l i) k 0) below label
      (Contains-get_or (patterns_at l i) k 0 h))) in
      rw (lt-ltb _ _ begins, at_most _ _ ends, ne_eqb len 0 other, known) refl
    where
      begins_of : (first len all : ℕ) → first + len ≤ all → (len ≡ 0 → ⊥) → first < all
      begins_of first len all le other = omega (arith, le, other)

  pub lists_closed : lists_stand l ≡ true
  lists_closed = grind (arith, common_steps, and_from, eq-eqb, all_of, list_passes, count)

  -- ---- read

  slice_word : (k : ℕ) → k < length l.slices → slice_index l.slices k < 2 ^ 32
  slice_word k lt =
      let i : ℕ = k / 2 in
      let ends = lists.within i (omega (arith, lt, lists.pairs)) in
      elim (cases_eq (k % 2) 0) [
        | inl even ↦ (
            let same : 2 * i ≡ k = omega (arith, even) in
            subst (λ (n : ℕ). slice_index l.slices n < 2 ^ 32) same (omega (arith, ends, lists.few)))
        | inr odd ↦ (
            let same : 2 * i + 1 ≡ k = omega (arith, odd) in
            subst (λ (n : ℕ). slice_index l.slices n < 2 ^ 32) same (omega (arith, ends, lists.few)))
      ]

  -- each pattern id is that of a row
  pattern_below : (k : ℕ) → k < length l.pattern_ids → slice_index l.pattern_ids k < l.pattern_len
  pattern_below k lt =
      let all : (list_all (λ pattern. ltb pattern l.pattern_len) (concat (match_lists l))) ≡ true =
      all_concat (λ pattern. ltb pattern l.pattern_len) (match_lists l) each in
      let own : list_all (λ pattern. ltb pattern l.pattern_len) l.pattern_ids ≡ true =
      ap (list_all (λ pattern. ltb pattern l.pattern_len)) joined.pattern_ids ∙ all in
      ltb-true _ _ (each_at (λ pattern. ltb pattern l.pattern_len) l.pattern_ids k own lt)
    where
      each : (i : ℕ) → i < length (match_lists l)
          → list_all (λ pattern. ltb pattern l.pattern_len) (get_or (match_lists l) i []) ≡ true
      each i lt =
          let low : i < match_count l =
          omega (arith, lt, length-map-range_with_len (patterns_at l) 0 (match_count l)) in
          ap (list_all (λ pattern. ltb pattern l.pattern_len))
          (get_or-map-range_with_len (patterns_at l) 0 (match_count l) i i [] low (omega arith))
          ∙ (and_parts _ (list_all (λ pattern. ltb pattern l.pattern_len) (patterns_at l i)) (list_passes i low)).1

      all_concat : (p : ℕ → Bool) (xss : List (List ℕ))
          → ((i : ℕ) → i < length xss → list_all p (get_or xss i []) ≡ true) → list_all p (concat xss) ≡ true
      all_concat p [] h = refl
      all_concat p (xs ∷ xss) h =
          list_all-append p xs (concat xss)
          ∙ and_from (list_all p xs) (list_all p (concat xss)) (h 0 (omega arith))
          (all_concat p xss (λ i lt. h (suc i) (omega (arith, lt))))

  pub lists_read : AreReadLists (pattern_lists_of l)
  lists_read = record {
    pairs = lists.pairs;
    few_rows = lists.few_rows;
    few_patterns = omega (arith, lists.few_patterns);
    few = lists.few;
    words = words_below l.slices slice_word;
    ids = words_below l.pattern_ids (λ k lt. omega (arith, pattern_below k lt, lists.few_patterns));
  }
