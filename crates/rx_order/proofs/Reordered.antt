-- A table whose rows were moved and renamed: the numbers of its rows, and where they lead.
use Rattle.rx_spec.proofs.Prelude.{rules, ◌≡◌, ℕ, ◌+◌, ◌*◌, ◌/◌, ◌^◌, ◌<◌, ◌≤◌, ◌==◌, ◌||◌, Bool, List, [], ◌∷◌, length}
use Rattle.rx_spec.proofs.Prelude.{map, slice_index, All, map-id, refl, ap, ap₂, sym, ◌∙◌, subst, ⊎_elim, arith}
use Rattle.rx_spec.proofs.Prelude.{common_steps, list_any, range_with_len, IsPermutation, mul-div_cancel, cases_lt}
use Rattle.rx_spec.proofs.Prelude.{lt-ltb, le-ltb, get_or-map, length-map, All-head, All-tail, All-from_get_or}
use Rattle.rx_spec.proofs.Prelude.{fill_by_all, get_or-map-range_with_len, length-map-range_with_len, le-div, pow_pos}
use Rattle.rx_spec.proofs.Prelude.{Anchored}
use Rattle.rx_order.proofs.Prelude.{AreStarts, IsPermutation-map, IsReordered, Layout, Start, column, column_within}
use Rattle.rx_order.proofs.Prelude.{ids_of, machine_of, mode_place, quotient, row-below, row_count, start_is_row}
use Rattle.rx_order.proofs.Prelude.{stride}
use Rattle.rx_dense.specs.Layouts.{AreRows, IsRowId}
use Rattle.rx_order.proofs.ExchangedRows.{places_apart, row_below}
use Rattle.rx_order.proofs.KindNumbers.{same_test}
use Rattle.rx_order.proofs.Moved.{factor, id_count, ids_count}

-- what is known of a table before its rows are moved
pub record IsBefore (l : Layout) (rows : List ℕ) : Type 0 where
  pub are_rows : AreRows l
  pub are_starts : AreStarts l
  pub order : IsPermutation (range_with_len 0 (row_count l)) rows

-- a test of images is a test of what they are images of
any_alike : (P : ℕ → Type 0) (f : ℕ → ℕ) (p q : ℕ → Bool) (xs : List ℕ) → ((x : ℕ) → P x → p (f x) ≡ q x) → All P xs
    → list_any p (map f xs) ≡ list_any q xs
any_alike P f p q [] e h = refl
any_alike P f p q (x ∷ xs) e h =
    ap₂ (λ (a b : Bool). a || b) (e x (All-head P x xs h)) (any_alike P f p q xs e (All-tail P x xs h))

module _ {rows : List ℕ} {old new : Layout} (re : IsReordered rows old new) (before : IsBefore old rows) where
  some : 0 < stride old
  some = pow_pos old.stride2

  abbrev pub numbers : List ℕ
  numbers = map (λ id. id / stride old) re.ids

  -- a row's number is its place
  number_is : (row : ℕ) (h : row < row_count old) → slice_index numbers row ≡ (re.moved.lies row h).place
  number_is row h =
      get_or-map (λ id. id / stride old) re.ids row 0 0 (omega (arith, id_count re.moved))
      ∙ ap (λ id. id / stride old) (re.moved.lies row h).id ∙ mul-div_cancel (re.moved.lies row h).place some

  pub id_is : (row : ℕ) → row < row_count old → slice_index re.ids row ≡ slice_index numbers row * stride old
  id_is row h = (re.moved.lies row h).id ∙ ap (λ k. k * stride old) (sym (number_is row h))

  pub number_below : (row : ℕ) → row < row_count old → slice_index numbers row < row_count old
  number_below row h =
      let at = re.moved.lies row h in
      let below : at.place < row_count old = omega (arith, at.below, re.moved.places) in
      subst (λ k. k < row_count old) (sym (number_is row h)) below

  pub row_at_number : (row : ℕ) → row < row_count old → slice_index rows (slice_index numbers row) ≡ row
  row_at_number row h =
      sym (re.there (slice_index numbers row) (number_below row h))
      ∙ ap (slice_index re.lying) (number_is row h) ∙ (re.moved.lies row h).there

  pub row_of_place : (place : ℕ) → place < row_count old → slice_index rows place < row_count old
  row_of_place place h = row_below before.order place h

  pub number_of_place : (place : ℕ) → place < row_count old → slice_index numbers (slice_index rows place) ≡ place
  number_of_place place h = search (rules, row_of_place, places_apart, number_below, row_at_number)

  pub permutation : IsPermutation (range_with_len 0 (row_count old)) numbers
  permutation =
      let n : ℕ = row_count old in
      let each : map (λ id. id / stride old) (ids_of old) ≡ map (λ k. k) (range_with_len 0 n) =
      fill_by_all (λ k. k) (map (λ id. id / stride old) (ids_of old)) n 0
      (length-map (ids_of old) (λ id. id / stride old) ∙ ids_count old)
      (λ k h.
      get_or-map (λ id. id / stride old) (ids_of old) k 0 0 (omega (arith, ids_count old))
      ∙ ap (λ id. id / stride old)
      (get_or-map-range_with_len (λ row. row * 2 ^ old.stride2) 0 n k k 0 h (omega arith))
      ∙ mul-div_cancel k some) in
      subst (λ xs. IsPermutation xs numbers) (each ∙ map-id (range_with_len 0 n))
      (IsPermutation-map (λ id. id / stride old) (ids_of old) re.ids re.moved.permutation)

  -- ---- the table

  same_stride2 : re.now.stride2 ≡ old.stride2
  same_stride2 = ap (λ (l : Layout). l.stride2) re.moved.rest

  same_starts : re.now.starts ≡ old.starts
  same_starts = ap (λ (l : Layout). l.starts) re.moved.rest

  pub stride_is : stride new ≡ stride old
  stride_is = ap (λ (l : Layout). stride l) re.is ∙ ap (λ s. 2 ^ s) same_stride2

  pub words_count : length new.words ≡ length old.words
  words_count = grind (arith, common_steps, length-map-range_with_len)

  pub size : row_count new ≡ row_count old
  size = ap₂ (λ (len s : ℕ). len / s) words_count stride_is

  now_size : row_count re.now ≡ row_count old
  now_size = ap₂ (λ (len s : ℕ). len / 2 ^ s) re.moved.count same_stride2

  next_place : (row unit : ℕ) → row < row_count old → unit < 257
      → row * stride old + column old unit < length old.words
  next_place row unit h u = search (rules, column_within)

  pub next_below : (row unit : ℕ) → row < row_count old → unit < 257 → (machine_of old).next row unit < row_count old
  next_below row unit h u = row-below old _ (before.are_rows.next_ids _ (next_place row unit h u))

  -- before the renaming a place leads where its row led
  next_there : (place unit : ℕ) → place < row_count old → unit < 257
      → (machine_of re.now).next place unit ≡ (machine_of old).next (slice_index rows place) unit
  next_there place unit h u = search (rules, column_within)

  renamed_row : (row : ℕ) → row < row_count old
      → slice_index re.ids row / stride re.now ≡ slice_index numbers row
  renamed_row row h = grind (arith, common_steps, same_stride2, get_or-map, id_count)

  pub next_of_place : (place unit : ℕ) → place < row_count old → unit < 257
      → (machine_of new).next place unit
      ≡ slice_index numbers ((machine_of old).next (slice_index rows place) unit)
  next_of_place place unit h u =
      re.machine.nexts place unit (omega (arith, now_size)) u
      ∙ ap (λ row. slice_index re.ids row / stride re.now) (next_there place unit h u)
      ∙ renamed_row _ (next_below (slice_index rows place) unit (row_of_place place h) u)

  pub next_of_row : (row unit : ℕ) → row < row_count old → unit < 257
      → (machine_of new).next (slice_index numbers row) unit ≡ slice_index numbers ((machine_of old).next row unit)
  next_of_row row unit h u = grind (arith, common_steps, next_of_place, number_below, row_at_number)

  -- ---- start entries

  pub zero_div : 0 / stride old ≡ 0
  zero_div = omega (arith, mul-div_cancel 0 some)

  pub two_rows : 2 ≤ row_count old
  two_rows = le-div 2 (length old.words) (stride old) some before.are_rows.two

  pub entry_below : (mode : Anchored) (start : Start) → (machine_of old).entry mode start < row_count old
  entry_below mode start = search (rules, lt-ltb, row-below, start_is_row, le-ltb, zero_div, two_rows, cases_lt)

  starts_are : new.starts ≡ map (λ id. slice_index re.ids (id / stride old)) old.starts
  starts_are = search (rules, same_stride2, same_starts)

  pub starts_count : length new.starts ≡ length old.starts
  starts_count = ap length starts_are ∙ length-map old.starts (λ id. slice_index re.ids (id / stride old))

  pub entry_of : slice_index numbers 0 ≡ 0 → (mode : Anchored) (start : Start)
      → (machine_of new).entry mode start ≡ slice_index numbers ((machine_of old).entry mode start)
  entry_of dead mode start =
      ⊎_elim
      (λ (has : mode_place mode < length old.starts).
      let there : mode_place mode < length re.now.starts = omega (arith, ap length same_starts) in
      let same = ap (λ (l : Layout). (machine_of l).entry mode start) re.moved.rest in
      re.machine.entries mode start there
      ∙ ap (λ row. slice_index re.ids row / stride re.now) same
      ∙ renamed_row _ (entry_below mode start))
      (λ (none : length old.starts ≤ mode_place mode).
      let none_now : length new.starts ≤ mode_place mode = omega (arith, starts_count) in
      rw (le-ltb _ _ none, le-ltb _ _ none_now, zero_div, dead) (ap (λ s. 0 / s) stride_is ∙ zero_div))
      (cases_lt (mode_place mode) (length old.starts))

  -- a search starts at a place where it started in the place's row
  pub any_start : (place : ℕ) → place < row_count old
      → list_any (λ id. id == place * stride new) new.starts
      ≡ list_any (λ id. id == slice_index rows place * stride old) old.starts
  any_start place h =
      ap (λ s. list_any (λ id. id == place * s) new.starts) stride_is
      ∙ ap (list_any (λ id. id == place * stride old)) starts_are
      ∙ any_alike (IsRowId old) (λ id. slice_index re.ids (id / stride old)) (λ id. id == place * stride old)
      (λ id. id == slice_index rows place * stride old) old.starts same
      (All-from_get_or (IsRowId old) old.starts 0 before.are_starts.start_ids)
    where
      same : (id : ℕ) → IsRowId old id
          → (slice_index re.ids (id / stride old) == place * stride old) ≡ (id == slice_index rows place * stride old)
      same id is =
          let row : ℕ = id / stride old in
          let below : row < row_count old = row-below old id is in
          let whole : row * stride old ≡ id = quotient id (stride old) is.whole in
          same_test
          (λ e.
          let number = factor some (slice_index numbers row) place (sym (id_is row below) ∙ e) in
          sym whole ∙ ap (λ r. r * stride old) (sym (row_at_number row below) ∙ ap (slice_index rows) number))
          (λ e.
          id_is row below
          ∙ ap (λ r. slice_index numbers r * stride old) (factor some row (slice_index rows place) (whole ∙ e))
          ∙ ap (λ k. k * stride old) (number_of_place place h))
