-- The rows that are left: their kinds, their order, and which of them are special.
use Rattle.rx_spec.proofs.Prelude.{common_steps, ◌≡◌, ℕ, ◌*◌, ◌/◌, ◌<◌, ◌≤◌, ◌==◌, ◌&&◌, ◌||◌, nat_lt, ⊎_elim, Bool}
use Rattle.rx_spec.proofs.Prelude.{true, false, List, length, refl, ap, ap₂, sym, ◌∙◌, subst, arith, slice_index}
use Rattle.rx_spec.proofs.Prelude.{both_ways, list_any, Contains, mul-div_cancel, and_from, and_parts, cases_lt, le-ltb}
use Rattle.rx_spec.proofs.Prelude.{lt-ltb, get_or-map, get_or_default, Contains-get_or, is_match, is_match_label}
use Rattle.rx_minimize.proofs.Prelude.{IsOrdered, Layout, is_marked, is_start_row, kind_by, kind_of, row-below}
use Rattle.rx_minimize.proofs.Prelude.{row_count, stride}
use Rattle.rx_dense.proofs.Rows.{quotient}
use Rattle.rx_order.proofs.KindNumbers.{high_kind, kind_accels, kind_alike, kind_high, kind_starts, none_in_range}
use Rattle.rx_order.proofs.KindRanges.{accel_id, is_between}
use Rattle.rx_order.proofs.KindRanges as KindRanges
use Rattle.rx_dense.proofs.MatchMaps.{any_contains, any_has}
use Rattle.rx_order.proofs.MarkedRows.{match_starts, start_row_plain}
use Rattle.rx_order.proofs.Moved.{factor}
use Rattle.rx_minimize.proofs.JoinedTables.{IsMinimizing, after, before, first, id_is, label_is, left, number, numbered}
use Rattle.rx_minimize.proofs.JoinedTables.{size, some, specials, starts_len}
use Rattle.rx_minimize.proofs.KeptKinds.{first_high, first_low, kind_at}
use Rattle.rx_minimize.proofs.Quotients.{first_number, label_first, number_high}

module _ {old : Layout} {blocks numbers firsts ids ends : List ℕ} {lists : List (List ℕ)} {new : Layout}
    (s : IsMinimizing old blocks numbers firsts ids ends lists new) where
  width : 0 < stride old
  width = some s

  none_before : (row : ℕ) → (before s).is_accelerated row ≡ false
  none_before row = grind (arith, common_steps, none_in_range)

  -- ---- start rows

  -- the row in which a start entry begins
  abbrev start_at : ℕ → ℕ
  start_at k = slice_index old.starts k / stride old

  start_below : (k : ℕ) → k < length old.starts → start_at k < row_count old
  start_below k h = row-below old (slice_index old.starts k) (s.are_starts.start_ids k h)

  start_id : (k : ℕ) → k < length old.starts → start_at k * stride old ≡ slice_index old.starts k
  start_id k h = quotient (slice_index old.starts k) (stride old) (s.are_starts.start_ids k h).whole

  -- the entry begins in the row's block
  start_left : (k : ℕ) → k < length old.starts → slice_index new.starts k ≡ number s (start_at k) * stride old
  start_left k h =
      ap (λ (xs : List ℕ). slice_index xs k) s.joined.starts
      ∙ get_or-map (λ id. slice_index ids (id / stride old)) old.starts k 0 0 h
      ∙ id_is s (start_at k) (start_below k h)

  -- The first row of a block in which searches start is such a row: of the rows that tell nothing these come first.
  first_starts : (k row : ℕ) → 1 < k → k < length firsts → row < row_count old → number s row ≡ k
      → is_start_row old row ≡ true → is_start_row old (first s k) ≡ true
  first_starts k row high h low is e =
      let above = and_parts (nat_lt 1 row) (list_any (λ id. id == row * stride old) old.starts) e in
      let behind = number_high (numbered s) row (omega (arith, is, high)) in
      let least : first s k ≤ row =
      omega (arith, ap (first s) is, s.kept.renumbered.first_least row (omega (arith, count))) in
      let rise = s.kept.in_order.ordered.kinds (first s k) row least low in
      let label : is_match (before s) (first s k) ≡ false =
      ap is_match_label (ap (λ j. (before s).machine.label (first s j)) (sym is) ∙ label_first (numbered s) row low
      ∙ start_row_plain old s.kept.in_order.sound row e) in
      let kind : kind_of old row ≡ 6 =
      grind (arith, common_steps, kind_high, high_kind, start_row_plain, s.kept.in_order.sound, none_before) in
      let own : kind_of old (first s k) ≡ high_kind false false (is_start_row old (first s k)) =
      kind_high (first s k) (is_match (before s) (first s k)) ((before s).is_accelerated (first s k))
      (is_start_row old (first s k)) (first_high s.kept k high h)
      ∙ ap₂ (λ (a b : Bool). high_kind a b (is_start_row old (first s k))) label (none_before (first s k)) in
      by_start (is_start_row old (first s k)) (omega (arith, rise, kind, own))
    where
      count : length blocks ≡ row_count old
      count = s.kept.are_blocks.count

      by_start : (b : Bool) → high_kind false false b ≤ 6 → b ≡ true
      by_start true h = refl
      by_start false h = absurd (omega (arith, h))

  pub start_row_is : (k : ℕ) → k < length firsts → is_start_row (left s) k ≡ is_start_row old (first s k)
  start_row_is k h =
      ⊎_elim
      (λ (high : 1 < k).
      both_ways (is_start_row (left s) k) (is_start_row old (first s k)) (there high) (here high))
      (λ (low : k ≤ 1).
      ap (λ b. b && list_any (λ id. id == k * stride old) new.starts) (le-ltb 1 k low)
      ∙ sym (ap (λ b. b && list_any (λ id. id == first s k * stride old) old.starts)
      (le-ltb 1 (first s k) (omega (arith, first_low s.kept k low)))))
      (cases_lt 1 k)
    where
      there : 1 < k → is_start_row (left s) k ≡ true → is_start_row old (first s k) ≡ true
      there high e =
          let c = any_contains (k * stride old) new.starts
          (and_parts (nat_lt 1 k) (list_any (λ id. id == k * stride old) new.starts) e).1 in
          let place : ℕ = c.0 in
          let within : place < length old.starts = omega (arith, starts_len s, c.1) in
          let row : ℕ = start_at place in
          let below = start_below place within in
          let id : slice_index new.starts place ≡ k * stride old =
          get_or_default new.starts place 0 (k * stride old) c.1 ∙ c.2 in
          let is : number s row ≡ k = factor width (number s row) k (sym (start_left place within) ∙ id) in
          first_starts k row high h below is (row_starts high place within is)
        where
          row_starts : 1 < k → (place : ℕ) → place < length old.starts → number s (start_at place) ≡ k
              → is_start_row old (start_at place) ≡ true
          row_starts high place within is =
              let row : ℕ = start_at place in
              let behind = number_high (numbered s) row (omega (arith, is, high)) in
              and_from (nat_lt 1 row) (list_any (λ id. id == row * stride old) old.starts) (lt-ltb 1 row behind)
              (any_has (row * stride old) old.starts
              (subst (Contains old.starts) (sym (start_id place within)) (Contains-get_or old.starts place 0 within)))

      here : 1 < k → is_start_row old (first s k) ≡ true → is_start_row (left s) k ≡ true
      here high e =
          let c = any_contains (first s k * stride old) old.starts
          (and_parts (nat_lt 1 (first s k)) (list_any (λ id. id == first s k * stride old) old.starts) e).1 in
          let place : ℕ = c.0 in
          let id : slice_index old.starts place ≡ first s k * stride old =
          get_or_default old.starts place 0 (first s k * stride old) c.1 ∙ c.2 in
          let row : start_at place ≡ first s k = ap (λ id. id / stride old) id ∙ mul-div_cancel (first s k) width in
          let now : slice_index new.starts place ≡ k * stride old =
          start_left place c.1 ∙ ap (λ r. number s r * stride old) row
          ∙ ap (λ j. j * stride old) (first_number (numbered s) k h) in
          let within : place < length new.starts = omega (arith, starts_len s, c.1) in
          and_from (nat_lt 1 k) (list_any (λ id. id == k * stride old) new.starts) (lt-ltb 1 k high)
          (any_has (k * stride old) new.starts
          (subst (Contains new.starts) now (Contains-get_or new.starts place 0 within)))

  -- ---- kinds

  low_start : (row : ℕ) → row ≤ 1 → is_start_row old row ≡ false
  low_start row h = ap (λ b. b && list_any (λ id. id == row * stride old) old.starts) (le-ltb 1 row h)

  pub none_accelerated : (k : ℕ) → k < length firsts → (after s).is_accelerated k ≡ false
  none_accelerated k h =
      let row : ℕ = first s k in
      accel_id (specials s) k (omega (arith, size s))
      ∙ kind_accels row (is_match (before s) row) ((before s).is_accelerated row) (is_start_row old row)
      (λ low. none_before row)
      ∙ none_before row

  match_is : (k : ℕ) → k < length firsts → is_match (after s) k ≡ is_match (before s) (first s k)
  match_is k h = ap is_match_label (label_is s k h)

  kind_is : (k : ℕ) → k < row_count (left s) → kind_of (left s) k ≡ kind_at s.kept k
  kind_is k b =
      let h : k < length firsts = omega (arith, size s) in
      ap₂ (λ (a b : Bool). kind_by k a b (is_start_row (left s) k)) (match_is k h)
      (none_accelerated k h ∙ sym (none_before (first s k)))
      ∙ ap (kind_by k (is_match (before s) (first s k)) ((before s).is_accelerated (first s k))) (start_row_is k h)
      ∙ kind_alike k (first s k) (is_match (before s) (first s k)) ((before s).is_accelerated (first s k))
      (is_start_row old (first s k)) (first_low s.kept k) (λ high. first_high s.kept k high h)

  start_kind : (k : ℕ) → k < row_count (left s) → is_between 4 6 (kind_at s.kept k) ≡ is_start_row (left s) k
  start_kind k b =
      let row : ℕ = first s k in
      kind_starts row (is_match (before s) row) ((before s).is_accelerated row) (is_start_row old row) (low_start row)
      (match_starts old s.kept.in_order.sound row)
      ∙ sym (start_row_is k (omega (arith, size s)))

  -- ---- the order

  pub marked : (k : ℕ) → k < length firsts → (after s).is_start k ≡ (is_marked old && is_start_row (left s) k)
  marked k h = KindRanges.start_is (specials s) kind_is start_kind k (omega (arith, size s))

  pub ordered : IsOrdered (left s)
  ordered = KindRanges.ordered (specials s) kind_is start_kind

  pub special_is : (k : ℕ) → k < length firsts
      → (after s).is_special k
      ≡ ((k == 0) || (k == 1) || is_match (after s) k || (after s).is_accelerated k || (after s).is_start k)
  special_is k h = KindRanges.special_rows (specials s) k (omega (arith, size s))

  pub no_accels : ((left s).special.min_accel ≡ 0) × ((left s).special.max_accel ≡ 0)
  no_accels = KindRanges.no_accels (specials s) (λ row h. none_accelerated row (omega (arith, size s)))
