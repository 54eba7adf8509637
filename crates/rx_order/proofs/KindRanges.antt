-- Special ids of a table whose rows lie by their kinds: tests of ids are tests of kinds.
use Rattle.std.proofs.lemmas.Bool.{cases_Bool}
use Rattle.rx_spec.proofs.Prelude.{rules, ◌≡◌, ℕ, ◌-◌, ◌*◌, ◌<◌, ◌≤◌, ◌==◌, ◌&&◌, ◌||◌, not, nat_lt, nat_le, Bool, true}
use Rattle.rx_spec.proofs.Prelude.{false, if◌then◌else◌, List, slice_index, refl, ap, ap₂, sym, ◌∙◌, subst, ⊎_elim, inl}
use Rattle.rx_spec.proofs.Prelude.{inr, arith, common_steps, max, cases_eq, cases_lt, false≢true, le-ltb, lt-ltb}
use Rattle.rx_spec.proofs.Prelude.{ne_eqb, nat_tests, mul-le, pow_pos, row_fits, is_match}
use Rattle.rx_order.proofs.Prelude.{AreKindEnds, IsRange, IsRowId-row, Layout, Special, first_id, greatest, is_accel_id}
use Rattle.rx_order.proofs.Prelude.{is_in_range, is_match_id, is_start_id, is_start_row, kind_of, last_id, row_count}
use Rattle.rx_order.proofs.Prelude.{special_ids, stride, table_of}
use Rattle.rx_order.specs.RowOrder.{IsOrdered}
use Rattle.rx_order.proofs.KindNumbers.{at_most, between, in_ids, kind_small, label_match, none_in_range, over}

-- a kind between two
abbrev pub is_between : (first last kind : ℕ) → Bool
is_between first last kind = nat_lt first kind && nat_le kind last

above_is : (a b : ℕ) → nat_le a b ≡ not (nat_lt b a)
above_is a b = grind (arith, common_steps, over, lt-ltb, at_most, le-ltb, cases_lt)

module _ {size : ℕ} {kind_at : ℕ → ℕ} {ends : List ℕ} (are : AreKindEnds size kind_at ends) where
  abbrev end : ℕ → ℕ
  end kind = slice_index ends kind

  pub from_end : (row kind : ℕ) → row < size → kind < 8 → nat_le (end kind) row ≡ nat_lt kind (kind_at row)
  from_end row kind h k = grind (arith, common_steps, above_is)

  -- a row lies before the end of a kind exactly where its own kind is at most that
  pub before_end : (row kind : ℕ) → row < size → kind < 8 → row < end kind → kind_at row ≤ kind
  before_end row kind h k b =
      let test = sym (are.to_end row kind h k) ∙ lt-ltb row (end kind) b in
      grind (arith, nat_tests)

  pub behind_end : (row kind : ℕ) → row < size → kind < 8 → end kind ≤ row → kind < kind_at row
  behind_end row kind h k b =
      let test = sym (are.to_end row kind h k) ∙ le-ltb row (end kind) b in
      grind (arith, nat_tests)

  pub low_kind : (row : ℕ) → row ≤ 1 → kind_at row ≡ row
  low_kind row h = grind (arith, common_steps, cases_eq)

  -- dead and quit lie before each end but dead's
  pub end_high : (kind : ℕ) → 1 ≤ kind → kind < 8 → 2 ≤ end kind
  end_high kind some h = grind (arith, common_steps, behind_end, cases_lt)

  pub ends_quit : end 1 ≡ 2
  ends_quit =
      ⊎_elim
      (λ (more : 2 < end 1).
      let within = are.within 1 (omega arith) in
      let third = are.others 2 (omega arith) (omega arith) in
      absurd (omega (arith, third, before_end 2 1 (omega arith) (omega arith) more)))
      (λ (none : end 1 ≤ 2). omega (arith, end_high 1 (omega arith) (omega arith)))
      (cases_lt 2 (end 1))

  pub ends_rise : (a b : ℕ) → a ≤ b → b < 8 → end a ≤ end b
  ends_rise a b h k =
      ⊎_elim
      (λ (less : end b < end a).
      let within = are.within a (omega arith) in
      let low = before_end (end b) a (omega arith) (omega arith) less in
      let high = behind_end (end b) b (omega arith) k (omega arith) in
      absurd (omega (arith, low, high)))
      (λ (more : end a ≤ end b). more)
      (cases_lt (end b) (end a))

  pub kinds_rise : (x y : ℕ) → x ≤ y → y < size → kind_at y < 8 → kind_at x ≤ kind_at y
  kinds_rise x y h b small = grind (arith, common_steps, before_end, behind_end, cases_lt)

-- the special ids of a table are those of the ends of its kinds
pub record HasSpecials (m : Layout) (marked : Bool) (kind_at : ℕ → ℕ) (ends : List ℕ) : Type 0 where
  pub are : AreKindEnds (row_count m) kind_at ends
  pub special : m.special ≡ special_ids (stride m) ends marked

-- a row is a match row by its id
pub match_by_id : (m : Layout) (row : ℕ) → is_match (table_of m) row ≡ is_match_id m.special (row * stride m)
match_by_id m row = grind (arith, common_steps, label_match)

module _ {m : Layout} {marked : Bool} {kind_at : ℕ → ℕ} {ends : List ℕ} (has : HasSpecials m marked kind_at ends) where
  abbrev last : ℕ → ℕ
  last kind = slice_index ends kind

  some : 0 < stride m
  some = pow_pos m.stride2

  -- ---- tests of ids

  in_range : (from to row : ℕ) → 1 ≤ from → from < 8 → to < 8 → row < row_count m
      → is_in_range (first_id (stride m) (last from) (last to)) (last_id (stride m) (last from) (last to))
      (row * stride m)
      ≡ is_between from to (kind_at row)
  in_range from to row low f t h =
      in_ids (stride m) (last from) (last to) row some (omega (arith, end_high has.are from low f))
      ∙ ap₂ (λ (a b : Bool). a && b) (from_end has.are row from h f) (has.are.to_end row to h t)

  pub match_id : (row : ℕ) → row < row_count m
      → is_match_id m.special (row * stride m) ≡ is_between 1 3 (kind_at row)
  match_id row h = grind (arith, common_steps, in_range)

  pub accel_id : (row : ℕ) → row < row_count m
      → is_accel_id m.special (row * stride m) ≡ is_between 2 5 (kind_at row)
  accel_id row h = grind (arith, common_steps, in_range)

  pub start_id : (row : ℕ) → row < row_count m
      → is_start_id m.special (row * stride m) ≡ (marked && is_between 4 6 (kind_at row))
  start_id row h = ap (λ s. is_start_id s (row * stride m)) has.special ∙ by_mark marked
    where
      by_mark : (b : Bool)
          → is_start_id (special_ids (stride m) ends b) (row * stride m) ≡ (b && is_between 4 6 (kind_at row))
      by_mark true = in_range 4 6 row (omega arith) (omega arith) (omega arith) h
      by_mark false = none_in_range (row * stride m)

  -- where no row is accelerated there are no such ids
  pub no_accels : ((row : ℕ) → row < row_count m → (table_of m).is_accelerated row ≡ false)
      → (m.special.min_accel ≡ 0) × (m.special.max_accel ≡ 0)
  no_accels none =
      let empty : nat_lt (last 2) (last 5) ≡ false =
      ⊎_elim
      (λ (h : last 2 < last 5).
      let within = has.are.within 5 (omega arith) in
      let low : last 2 < row_count m = omega arith in
      let above = behind_end has.are (last 2) 2 low (omega arith) (omega arith) in
      let upto = before_end has.are (last 2) 5 low (omega arith) h in
      absurd (false≢true (sym (none (last 2) low) ∙ accel_id (last 2) low
      ∙ between 2 5 (kind_at (last 2)) above upto)))
      (λ (h : last 5 ≤ last 2). le-ltb (last 2) (last 5) h)
      (cases_lt (last 2) (last 5)) in (
        ap (λ (s : Special). s.min_accel) has.special ∙ ap (λ b. if b then last 2 * stride m else 0) empty,
        ap (λ (s : Special). s.max_accel) has.special ∙ ap (λ b. if b then (last 5 - 1) * stride m else 0) empty,
      )

  -- ---- the greatest special id

  times : (a b : ℕ) → a ≤ b → a * stride m ≤ b * stride m
  times a b h = mul-le a (stride m) b (stride m) h (omega arith)

  above : (a b : ℕ) → a < b → a * stride m < b * stride m
  above a b h = omega (arith, row_fits a (stride m) b (stride m) h (omega arith), some)

  -- the last row of two ranges that meet
  max_step : (a b c : ℕ) → 1 ≤ a → a ≤ b → b ≤ c
      → max ((b - 1) * stride m) (last_id (stride m) a c) ≡ (c - 1) * stride m
  max_step a b c low le_b le_c = search (rules, times, lt-ltb, le-ltb, cases_lt)

  max_is : m.special.max ≡ (last (if marked then 6 else 5) - 1) * stride m
  max_is =
      ap (λ (s : Special). s.max) has.special ∙ by_mark marked
    where
      quit : stride m ≡ (2 - 1) * stride m
      quit = omega arith

      accels : max (max (stride m) (last_id (stride m) (last 1) (last 3))) (last_id (stride m) (last 2) (last 5))
          ≡ (last 5 - 1) * stride m
      accels =
          ap (λ k. max (max k (last_id (stride m) (last 1) (last 3))) (last_id (stride m) (last 2) (last 5))) quit
          ∙ ap (λ k. max k (last_id (stride m) (last 2) (last 5)))
          (max_step (last 1) 2 (last 3) (omega (arith, ends_quit has.are)) (omega (arith, ends_quit has.are))
          (omega (arith, ends_rise has.are 1 3 (omega arith) (omega arith), ends_quit has.are)))
          ∙ max_step (last 2) (last 3) (last 5) (omega (arith, end_high has.are 2 (omega arith) (omega arith)))
          (ends_rise has.are 2 3 (omega arith) (omega arith)) (ends_rise has.are 3 5 (omega arith) (omega arith))

      by_mark : (b : Bool) → (special_ids (stride m) ends b).max ≡ (last (if b then 6 else 5) - 1) * stride m
      by_mark true =
          ap (λ k. max k (last_id (stride m) (last 4) (last 6))) accels
          ∙ max_step (last 4) (last 5) (last 6) (omega (arith, end_high has.are 4 (omega arith) (omega arith)))
          (ends_rise has.are 4 5 (omega arith) (omega arith)) (ends_rise has.are 5 6 (omega arith) (omega arith))
      by_mark false = (let most = accels in omega arith)

  -- a row's id is at most the greatest special id exactly where a search looks at the row's kind
  special_test : (row : ℕ) → row < row_count m
      → nat_le (row * stride m) m.special.max
      ≡ ((kind_at row == 0) || (kind_at row == 1) || is_between 1 3 (kind_at row) || is_between 2 5 (kind_at row)
      || (marked && is_between 4 6 (kind_at row)))
  special_test row h =
      let kind : ℕ = if marked then 6 else 5 in
      let small : kind < 8 = high marked in
      let high : 2 ≤ last kind = end_high has.are kind (low marked) small in
      ap (nat_le (row * stride m)) max_is
      ∙ ⊎_elim
      (λ (before : row < last kind).
      at_most (row * stride m) ((last kind - 1) * stride m) (times row (last kind - 1) (omega arith))
      ∙ sym (lt-ltb row (last kind) before))
      (λ (behind : last kind ≤ row).
      over (row * stride m) ((last kind - 1) * stride m) (above (last kind - 1) row (omega arith))
      ∙ sym (le-ltb row (last kind) behind))
      (cases_lt row (last kind))
      ∙ has.are.to_end row kind h small ∙ by_mark marked
    where
      high : (b : Bool) → (if b then 6 else 5) < 8
      high b = grind (arith, common_steps, cases_Bool)

      low : (b : Bool) → 1 ≤ (if b then 6 else 5)
      low b = grind (arith, common_steps, cases_Bool)

      by_mark : (b : Bool) → nat_le (kind_at row) (if b then 6 else 5)
          ≡ ((kind_at row == 0) || (kind_at row == 1) || is_between 1 3 (kind_at row) || is_between 2 5 (kind_at row)
          || (b && is_between 4 6 (kind_at row)))
      by_mark true = grind (arith, nat_tests)
      by_mark false = grind (arith, nat_tests)

  -- ---- the table's rows

  -- dead and quit have the kinds 0 and 1, and no other row does
  first_kinds : (row : ℕ) → row ≤ 1 → kind_at row ≡ row
  first_kinds row h = grind (arith, common_steps, cases_eq, cases_lt, has.are.dead, has.are.quit)

  first_kind : (low : ℕ) → low ≤ 1 → (row : ℕ) → row < row_count m → (kind_at row == low) ≡ (row == low)
  first_kind low first row h = search (rules, first_kinds, ne_eqb, cases_eq, cases_lt)

  pub special_rows : (row : ℕ) → row < row_count m
      → (table_of m).is_special row
      ≡ ((row == 0) || (row == 1) || is_match (table_of m) row || (table_of m).is_accelerated row
      || (table_of m).is_start row)
  special_rows row h = grind (arith, common_steps, special_test, first_kind, match_by_id, match_id, accel_id, start_id)

  -- ---- the order

  ids_range : (from to : ℕ) → 1 ≤ from → from < 8 → to < 8
      → IsRange m (first_id (stride m) (last from) (last to)) (last_id (stride m) (last from) (last to))
  ids_range from to low f t =
      ⊎_elim
      (λ (h : last from < last to).
      let high = end_high has.are from low f in
      let within = has.are.within to t in
      rw (lt-ltb (last from) (last to) h)
      (inr (
        omega (arith, above 1 (last from) (omega (arith, high))),
        times (last from) (last to - 1) (omega arith),
        IsRowId-row m (last from) (omega (arith, within)),
        IsRowId-row m (last to - 1) (omega (arith, within)),
      )))
      (λ (none : last to ≤ last from). rw (le-ltb (last from) (last to) none) (inl (refl, refl)))
      (cases_lt (last from) (last to))

  -- The kinds are those of the table's rows.
  module _ (kinds : (row : ℕ) → row < row_count m → kind_of m row ≡ kind_at row)
      (starts : (row : ℕ) → row < row_count m → is_between 4 6 (kind_at row) ≡ is_start_row m row) where
    pub start_is : (row : ℕ) → row < row_count m → (table_of m).is_start row ≡ (marked && is_start_row m row)
    start_is row h = start_id row h ∙ ap (λ b. marked && b) (starts row h)

    marks : (b : Bool) (row : ℕ) → row < row_count m
        → (b && is_start_row m row) ≡ (not ((special_ids (stride m) ends b).min_start == 0) && is_start_row m row)
    marks false row h = refl
    marks true row h =
        ⊎_elim
        (λ (some_start : last 4 < last 6).
        let high = end_high has.are 4 (omega arith) (omega arith) in
        let behind : 0 < last 4 * stride m = omega (arith, above 0 (last 4) (omega (arith, high))) in
        let other : last 4 * stride m ≡ 0 → ⊥ = λ e. absurd (omega (arith, e, behind)) in
        rw (lt-ltb (last 4) (last 6) some_start, ne_eqb (last 4 * stride m) 0 other) refl)
        (λ (none : last 6 ≤ last 4).
        rw (le-ltb (last 4) (last 6) none)
        (sym (starts row h)
        ∙ sym (ap₂ (λ (b c : Bool). b && c) (from_end has.are row 4 h (omega arith))
        (has.are.to_end row 6 h (omega arith)))
        ∙ ⊎_elim
        (λ (low : row < last 4). rw (over (last 4) row low) refl)
        (λ (past : last 4 ≤ row). rw (at_most (last 4) row past, le-ltb row (last 6) (omega arith)) refl)
        (cases_lt row (last 4))))
        (cases_lt (last 4) (last 6))

    starts_range : (b : Bool)
        → IsRange m (special_ids (stride m) ends b).min_start (special_ids (stride m) ends b).max_start
    starts_range b = search (rules, ids_range)

    pub ordered : IsOrdered m
    ordered = record {
      kinds = λ x y h b.
          let x_in : x < row_count m = omega arith in
          rw (kinds x x_in, kinds y b) (kinds_rise has.are x y h b (small y b));
      quit = ap (λ (s : Special). s.quit) has.special;
      matches =
          subst (λ (s : Special). IsRange m s.min_match s.max_match) (sym has.special)
          (ids_range 1 3 (omega arith) (omega arith) (omega arith));
      accels =
          subst (λ (s : Special). IsRange m s.min_accel s.max_accel) (sym has.special)
          (ids_range 2 5 (omega arith) (omega arith) (omega arith));
      starts = subst (λ (s : Special). IsRange m s.min_start s.max_start) (sym has.special) (starts_range marked);
      max = subst (λ (s : Special). s.max ≡ greatest s) (sym has.special) refl;
      marks = λ row h.
          start_is row h ∙ marks marked row h
          ∙ ap (λ (s : Special). not (s.min_start == 0) && is_start_row m row) (sym has.special);
    }
      where
        small : (row : ℕ) → row < row_count m → kind_at row < 8
        small row h =
            subst (λ k. k < 8) (kinds row h)
            (kind_small row (is_match (table_of m) row) ((table_of m).is_accelerated row) (is_start_row m row))
