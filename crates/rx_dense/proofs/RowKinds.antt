-- Kinds of rows by their ids, with the patterns of match rows and the needles of accelerated ones.
use Rattle.rx_spec.proofs.Prelude.{common_steps, ◌≡◌, ℕ, ◌+◌, ◌*◌, ◌/◌, ◌<◌, ◌≤◌, ◌&&◌, not, nat_le, Bool, true, false}
use Rattle.rx_spec.proofs.Prelude.{if◌then◌else◌, List, [], length, take, drop, get_or, slice_index, refl, ap, sym, ◌∙◌}
use Rattle.rx_spec.proofs.Prelude.{⊎_elim, arith, Some, None, cases_lt, leb-true, and_parts, get_or_past}
use Rattle.rx_spec.proofs.Prelude.{Contains-get_or, row_of, max_id, Label, is_match, is_match_label, Anchored}
use Rattle.rx_search.specs.Starts.{IsId, universal_start}
use Rattle.rx_search.specs.Labels.{is_quit, is_quit_label, label_patterns, patterns_of}
use Rattle.rx_search.proofs.Standing.{match_label}
use Rattle.rx_dense.specs.Specials.{is_match_id, is_quit_id, is_accel_id, is_start_id}
use Rattle.rx_dense.specs.Layouts.{Layout, AreLists, ids_of, label_of_id, needles_of_id, patterns_at, place_in_range}
use Rattle.rx_dense.specs.Layouts.{AreRows, is_row_id, stride, table_of, universal_id, universal_row}
use Rattle.rx_dense.specs.Facts.{IsSoundLayout}
use Rattle.rx_dense.proofs.Rows.{id-times, row-is_below, row_of-id, valid_id}

-- ---- labels by the two tests

abbrev pub label_by : Bool → Bool → List ℕ → Label
label_by m q ks = if m then Label.Matches ks else (if q then Label.Quits else Label.Plain)

pub match_by : (m q : Bool) (ks : List ℕ) → is_match_label (label_by m q ks) ≡ m
match_by true q ks = refl
match_by false true ks = refl
match_by false false ks = refl

pub quit_by : (m q : Bool) (ks : List ℕ) → is_quit_label (label_by m q ks) ≡ (q && not m)
quit_by true true ks = refl
quit_by true false ks = refl
quit_by false true ks = refl
quit_by false false ks = refl

matches_by : (m q : Bool) (ks : List ℕ) → m ≡ true → label_by m q ks ≡ Label.Matches ks
matches_by m q ks e = ap (λ m. label_by m q ks) e

-- ---- rows by their ids

module _ (l : Layout) (id : ℕ) (is : IsId (ids_of l) id) where
  row : ℕ
  row = row_of (ids_of l) id

  pub at_row : {X : Type 0} (f : ℕ → X) → f id ≡ f (row_of (ids_of l) id * stride l)
  at_row f = sym (ap f (id-times l id is))

  pub special_kind : nat_le id l.special.max ≡ (table_of l).is_special (row_of (ids_of l) id)
  special_kind = at_row (λ x. nat_le x l.special.max)

  pub accel_kind : is_accel_id l.special id ≡ (table_of l).is_accelerated (row_of (ids_of l) id)
  accel_kind = at_row (is_accel_id l.special)

  pub start_kind : is_start_id l.special id ≡ (table_of l).is_start (row_of (ids_of l) id)
  start_kind = at_row (is_start_id l.special)

  pub match_kind : is_match_id l.special id ≡ is_match (table_of l) (row_of (ids_of l) id)
  match_kind =
      sym (
      match_by (is_match_id l.special id) (is_quit_id l.special id)
      (patterns_at l (place_in_range l l.special.min_match id))
      )
      ∙ at_row (λ x. is_match_label (label_of_id l x))

  pub quit_kind : (is_quit_id l.special id && not (is_match_id l.special id))
      ≡ is_quit (table_of l) (row_of (ids_of l) id)
  quit_kind =
      sym (
      quit_by (is_match_id l.special id) (is_quit_id l.special id)
      (patterns_at l (place_in_range l l.special.min_match id))
      )
      ∙ at_row (λ x. is_quit_label (label_of_id l x))

  -- ---- match rows

  pub match_first : is_match (table_of l) (row_of (ids_of l) id) ≡ true → l.special.min_match ≤ id
  match_first e = leb-true l.special.min_match id (and_parts _ _ (and_parts _ _ (match_kind ∙ e)).0).0

  match_label_is : is_match (table_of l) (row_of (ids_of l) id) ≡ true
      → (table_of l).machine.label (row_of (ids_of l) id)
      ≡ Label.Matches (patterns_at l (place_in_range l l.special.min_match id))
  match_label_is e =
      sym (at_row (label_of_id l))
      ∙ matches_by (is_match_id l.special id) (is_quit_id l.special id)
      (patterns_at l (place_in_range l l.special.min_match id)) (match_kind ∙ e)

  pub match_patterns : is_match (table_of l) (row_of (ids_of l) id) ≡ true
      → patterns_of (table_of l) (row_of (ids_of l) id) ≡ patterns_at l (place_in_range l l.special.min_match id)
  match_patterns e = ap label_patterns (match_label_is e)

  -- in a sound table each has its list
  pub match_place : IsSoundLayout l → is_match (table_of l) (row_of (ids_of l) id) ≡ true
      → 2 * place_in_range l l.special.min_match id + 1 < length l.slices
  match_place sound e =
      ⊎_elim
      (λ (h : 2 * i + 1 < length l.slices). h)
      (λ (h : length l.slices ≤ 2 * i + 1).
      let none : slice_index l.slices (2 * i + 1) ≡ 0 = get_or_past l.slices (2 * i + 1) 0 h in
      absurd (
      sound.is_table.lists (row_of (ids_of l) id) (row-is_below l id is)
      (match_label_is e ∙ ap Label.Matches (ap (λ n. take n (drop (slice_index l.slices (2 * i)) l.pattern_ids)) none))
      ))
      (cases_lt (2 * i + 1) (length l.slices))
    where
      i : ℕ
      i = place_in_range l l.special.min_match id

  -- in a sound table they are numbers of patterns
  pub pattern_ids : IsSoundLayout l → AreLists l → is_match (table_of l) (row_of (ids_of l) id) ≡ true
      → (k : ℕ) → k < length (patterns_of (table_of l) (row_of (ids_of l) id))
      → slice_index (patterns_of (table_of l) (row_of (ids_of l) id)) k ≤ max_id
  pattern_ids sound lists e k h =
      let ks : List ℕ = patterns_of (table_of l) (row_of (ids_of l) id) in
      let label = match_label ((table_of l).machine.label (row_of (ids_of l) id)) e in
      omega (
        arith,
        sound.patterns (row_of (ids_of l) id) ks (slice_index ks k) (row-is_below l id is) label
            (Contains-get_or ks k 0 h),
      )

  -- ---- accelerated rows

  pub accel_first : is_accel_id l.special id ≡ true → l.special.min_accel ≤ id
  accel_first e = leb-true l.special.min_accel id (and_parts _ _ (and_parts _ _ e).0).0

  pub no_needles : is_accel_id l.special id ≡ false → [] ≡ (table_of l).needles (row_of (ids_of l) id)
  no_needles e =
      sym (ap (λ b. if b then get_or l.accels (place_in_range l l.special.min_accel id) [] else []) e)
      ∙ at_row (needles_of_id l)

  pub needles_are : is_accel_id l.special id ≡ true
      → get_or l.accels (place_in_range l l.special.min_accel id) [] ≡ (table_of l).needles (row_of (ids_of l) id)
  needles_are e =
      sym (ap (λ b. if b then get_or l.accels (place_in_range l l.special.min_accel id) [] else []) e)
      ∙ at_row (needles_of_id l)

  pub accel_place : IsSoundLayout l → is_accel_id l.special id ≡ true
      → place_in_range l l.special.min_accel id < length l.accels
  accel_place sound e =
      ⊎_elim
      (λ (h : i < length l.accels). h)
      (λ (h : length l.accels ≤ i).
      let none : get_or l.accels i [] ≡ [] = get_or_past l.accels i [] h in
      let empty : length ((table_of l).needles (row_of (ids_of l) id)) ≡ 0 = ap length (sym (needles_are e) ∙ none) in
      absurd (omega (arith, sound.some_needle (row_of (ids_of l) id) (row-is_below l id is) (sym accel_kind ∙ e))))
      (cases_lt i (length l.accels))
    where
      i : ℕ
      i = place_in_range l l.special.min_accel id

-- ---- the patterns of a match row, where they stand

module _ (l : Layout) (lists : AreLists l) (i : ℕ) (h : 2 * i + 1 < length l.slices) where
  pub patterns_len : length (patterns_at l i) ≡ slice_index l.slices (2 * i + 1)
  patterns_len = grind (arith, common_steps)

-- ---- universal starts

pub universal_is : (l : Layout) (mode : Anchored)
    → universal_start (table_of l) mode ≡ universal_row l (universal_id l mode)
universal_is l Anchored.No = refl
universal_is l _ = refl

pub invalid_universal : (l : Layout) (mode : Anchored) (id : ℕ) → universal_id l mode ≡ Some id → is_row_id l id ≡ false
    → None ≡ universal_start (table_of l) mode
invalid_universal l mode id e invalid = grind (arith, common_steps, universal_is)

pub universal_at : (l : Layout) → AreRows l → (mode : Anchored) (id : ℕ) → universal_id l mode ≡ Some id
    → is_row_id l id ≡ true → Some (row_of (ids_of l) id) ≡ universal_start (table_of l) mode
universal_at l rows mode id e valid =
    ap (λ (x : ℕ). Some x) (row_of-id l id (valid_id l rows id valid))
    ∙ sym (universal_is l mode ∙ ap (universal_row l) e ∙ ap (λ b. if b then Some (id / stride l) else None) valid)
