-- The sparse table of a sound dense one has the shape of a sparse table.
use Rattle.rx_spec.proofs.Prelude.{common_steps, ◌≡◌, ℕ, ◌+◌, ◌-◌, ◌*◌, ◌<◌, ◌≤◌, true, List, [], ◌∷◌, length, map}
use Rattle.rx_spec.proofs.Prelude.{slice_index, get_or, refl, ap, sym, ◌∙◌, subst, arith, IfSome, le-div, pow_pos}
use Rattle.rx_spec.proofs.Prelude.{get_or-map, length-map, Contains-get_or, max_id, Label}
use Rattle.rx_lemmas.proofs.Firsts.{by_test}
use Rattle.rx_search.specs.Starts.{IsId}
use Rattle.rx_dense.specs.Specials.{is_accel_id, is_match_id}
use Rattle.rx_dense.specs.Layouts as dense
use Rattle.rx_dense.specs.Layouts.{IsRowId, patterns_at, place_in_range, stride}
use Rattle.rx_dense.specs.Builder.{renamed_id}
use Rattle.rx_dense.specs.Facts as dense_facts
use Rattle.rx_dense.specs.States as states
use Rattle.rx_dense.proofs.Rows.{alphabet_few}
use Rattle.rx_sparse.specs.declared.ranges.ClassRange.{ClassRange}
use Rattle.rx_sparse.specs.Rows.{Row, is_some_list, no_range}
use Rattle.rx_sparse.specs.Layouts.{AreRanges, AreRows, AreStarts, IsRow, IsShaped, ids_of, row_at}
use Rattle.rx_sparse.specs.Sparse.{AreSpecialRows, dense_rows, offsets_of, patterns_of_id, ranges_of, renamed_range}
use Rattle.rx_sparse.specs.Sparse.{renamed_row, renamed_special, row_of_dense, sparse_len, sparse_of}
use Rattle.rx_sparse.proofs.DenseRanges.{are_ranges, range_first, range_next}
use Rattle.rx_sparse.proofs.SparseTables.{id_there, ids_same, match_same, next_ids_count, next_is_row, renamed_is_id}
use Rattle.rx_sparse.proofs.SparseTables.{row_there, rows_count, rows_len-renamed, universal_is_id}

-- ---- ranges whose ids are renamed

module _ (f : ℕ → ℕ) (ranges : List ClassRange) where
  abbrev new : List ClassRange
  new = map (renamed_range f) ranges

  same_count : length new ≡ length ranges
  same_count = length-map ranges (renamed_range f)

  pub range_there : (i : ℕ) → i < length ranges → get_or new i no_range ≡ renamed_range f (get_or ranges i no_range)
  range_there i h = get_or-map (renamed_range f) ranges i no_range no_range h

  module _ (classes : List ℕ) (are : AreRanges classes ranges) where
    first_is : (i : ℕ) → i < length ranges → (get_or new i no_range).first ≡ (get_or ranges i no_range).first
    first_is i h = ap (λ (r : ClassRange). r.first) (range_there i h)

    last_is : (i : ℕ) → i < length ranges → (get_or new i no_range).last ≡ (get_or ranges i no_range).last
    last_is i h = ap (λ (r : ClassRange). r.last) (range_there i h)

    pub are_ranges-renamed : AreRanges classes new
    are_ranges-renamed = record {
      few = (let few = are.few in omega (arith, same_count));
      ordered = λ i h.
          let low : i < length ranges = omega (arith, same_count) in
          omega (arith, first_is i low, last_is i low, are.ordered i low);
      within = λ i h.
          let low : i < length ranges = omega (arith, same_count) in
          omega (arith, last_is i low, are.within i low);
      rising = λ i h.
          let next : i + 1 < length ranges = omega (arith, same_count) in
          let low : i < length ranges = omega arith in
          omega (arith, last_is i low, first_is (i + 1) next, are.rising i next);
    }

-- ---- rows of a dense table

module _ (l : dense.Layout) (rows : dense.AreRows l) (row : ℕ) (h : row < dense.row_count l) where
  abbrev next_ids : List ℕ
  next_ids = (states.row_at l row).next_ids

  next_ids_len : length next_ids ≡ slice_index l.classes 255 + 2
  next_ids_len = next_ids_count l rows row h

  pub next_ids_few : length next_ids ≤ 257
  next_ids_few = omega (arith, next_ids_len, alphabet_few l.classes rows.classes)

  dense_ranges : AreRanges l.classes (ranges_of next_ids)
  dense_ranges = are_ranges next_ids l.classes (sym next_ids_len) next_ids_few

  -- the ids to which a row leads
  pub range_id : (i : ℕ) → i < length (ranges_of next_ids) → IsRowId l (get_or (ranges_of next_ids) i no_range).next
  range_id i b =
      subst (IsRowId l) (sym (range_next next_ids i b))
      (next_is_row l rows row h _ (omega (arith, range_first next_ids i b, next_ids_len)))

  pub eoi_id : IsRowId l (slice_index next_ids (length next_ids - 1))
  eoi_id = next_is_row l rows row h (length next_ids - 1) (omega (arith, next_ids_len))

-- ---- rows of a sound table

module _ (l : dense.Layout) (shaped : dense.IsShaped l) (sound : dense_facts.IsSoundLayout l) (row : ℕ)
    (h : row < dense.row_count l) where
  abbrev id : ℕ
  id = row * stride l

  abbrev patterns : List ℕ
  patterns = patterns_at l (place_in_range l l.special.min_match id)

  -- match rows, and no others, have patterns
  pub patterns_there : is_some_list (patterns_of_id l id) ≡ is_match_id l.special id
  patterns_there =
      by_test (is_match_id l.special id)
      (λ yes.
      rw yes (some_list patterns
      (λ none. sound.is_table.lists row h ((grind (arith, common_steps)) ∙ ap Label.Matches none))))
      (λ no. rw no refl)
    where
      some_list : (ks : List ℕ) → (ks ≡ [] → ⊥) → is_some_list ks ≡ true
      some_list [] f = absurd (f refl)
      some_list (k ∷ ks) f = refl

  pub patterns_small : (i : ℕ) → i < length (patterns_of_id l id) → slice_index (patterns_of_id l id) i ≤ max_id
  patterns_small =
      by_test (is_match_id l.special id)
      (λ yes.
      rw yes
      (λ i b.
      let low =
      sound.patterns row patterns (slice_index patterns i) h (grind (arith, common_steps))
      (Contains-get_or patterns i 0 b) in
      omega arith))
      (λ no. rw no (λ i b. absurd (omega (arith, shaped.lists.few_patterns))))

  pub needles_few : length (dense.needles_of_id l id) ≤ 3
  needles_few =
      by_test (is_accel_id l.special id)
      (λ yes. sound.few_needles row h yes)
      (λ no. (let none = ap length (sound.no_needle row h no) in omega (arith, none)))

-- ---- the whole table

module _ (l : dense.Layout) (shaped : dense.IsShaped l) (sound : dense_facts.IsSoundLayout l)
    (special : AreSpecialRows l) (fits : sparse_len l ≤ max_id) where
  table_rows : dense.AreRows l
  table_rows = shaped.rows

  abbrev renamed : ℕ → ℕ
  renamed = renamed_id l (offsets_of l)

  is_id : (id : ℕ) → IsRowId l id → IsId (ids_of (sparse_of l)) (renamed id)
  is_id id is = subst (λ ids. IsId ids (renamed id)) (sym (ids_same l table_rows)) (renamed_is_id l table_rows id is)

  module _ (row : ℕ) (h : row < dense.row_count l) where
    abbrev old : Row
    old = row_of_dense l (states.row_at l row)

    there : row_at (sparse_of l) row ≡ renamed_row renamed old
    there = row_there l table_rows row h

    nexts_are : (i : ℕ) → i < length (map (renamed_range renamed) old.ranges)
        → IsId (ids_of (sparse_of l)) (get_or (map (renamed_range renamed) old.ranges) i no_range).next
    nexts_are i b =
        let low : i < length old.ranges = omega (arith, length-map old.ranges (renamed_range renamed)) in
        subst (IsId (ids_of (sparse_of l)))
        (sym (ap (λ (r : ClassRange). r.next) (range_there renamed old.ranges i low)))
        (is_id _ (range_id l table_rows row h i low))

    pub sparse_row : IsRow (sparse_of l) row
    sparse_row = record {
      ranges =
          subst (λ (r : Row). AreRanges l.classes r.ranges) (sym there)
          (are_ranges-renamed renamed old.ranges l.classes (dense_ranges l table_rows row h));
      nexts =
          subst (λ (r : Row). (i : ℕ) → i < length r.ranges
          → IsId (ids_of (sparse_of l)) (get_or r.ranges i no_range).next) (sym there) nexts_are;
      eoi =
          subst (λ (r : Row). IsId (ids_of (sparse_of l)) r.eoi) (sym there)
          (is_id _ (eoi_id l table_rows row h));
      matches =
          ap (is_match_id (renamed_special renamed l.special)) (id_there l table_rows row h)
          ∙ match_same l table_rows special row h
          ∙ sym (patterns_there l shaped sound row h)
          ∙ ap (λ (r : Row). is_some_list r.patterns) (sym there);
      patterns =
          subst (λ (r : Row). (i : ℕ) → i < length r.patterns → slice_index r.patterns i ≤ max_id) (sym there)
          (patterns_small l shaped sound row h);
      needles = subst (λ (r : Row). length r.needles ≤ 3) (sym there) (needles_few l shaped sound row h);
    }

  count : length (map (renamed_row renamed) (dense_rows l)) ≡ dense.row_count l
  count = length-map (dense_rows l) (renamed_row renamed) ∙ rows_count l table_rows

  are_rows : AreRows (sparse_of l)
  are_rows = record {
    classes = table_rows.classes;
    two =
        omega (
          arith,
          count,
          le-div 2 (length l.words) (stride l) (pow_pos l.stride2)
              (let two = table_rows.two in two),
        );
    few = omega (arith, rows_len-renamed renamed (dense_rows l), fits);
    rows = λ row h. sparse_row row (omega (arith, count));
  }

  are_starts : AreStarts (sparse_of l)
  are_starts = record {
    contexts = shaped.starts.contexts;
    count = length-map l.starts renamed ∙ shaped.starts.count;
    small = (let small = shaped.starts.small in omega (arith, length-map l.starts renamed));
    start_ids = λ k h.
        let low : k < length l.starts = omega (arith, length-map l.starts renamed) in
        subst (IsId (ids_of (sparse_of l))) (sym (get_or-map renamed l.starts k 0 0 low))
        (is_id _ (shaped.starts.start_ids k low));
    universal_unanchored =
        subst (λ ids. IfSome (sparse_of l).universal_unanchored (IsId ids)) (sym (ids_same l table_rows))
        (universal_is_id l table_rows l.universal_unanchored);
    universal_anchored =
        subst (λ ids. IfSome (sparse_of l).universal_anchored (IsId ids)) (sym (ids_same l table_rows))
        (universal_is_id l table_rows l.universal_anchored);
  }

  pub sparse_shaped : IsShaped (sparse_of l)
  sparse_shaped = record { rows = are_rows; starts = are_starts; few_patterns = shaped.lists.few_patterns }
