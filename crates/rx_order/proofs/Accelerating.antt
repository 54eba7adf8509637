-- Accelerated tables: a table in order, with the rows from which a search may skip put beside each other.
use Rattle.rx_spec.proofs.Prelude.{rules, ◌≡◌, ℕ, ◌+◌, ◌-◌, ◌*◌, ◌/◌, ◌<◌, ◌≤◌, ◌==◌, ◌&&◌, not, nat_lt, nat_le, Bool}
use Rattle.rx_spec.proofs.Prelude.{true, false, if◌then◌else◌, List, [], length, map, slice_index, get_or, refl, ap}
use Rattle.rx_spec.proofs.Prelude.{ap₂, sym, ◌∙◌, subst, ⊎_elim, arith, common_steps, concat, range_with_len, and-false}
use Rattle.rx_spec.proofs.Prelude.{and-true, and_parts, cases_lt, eq-eqb, false≢true, le-ltb, leb-true, lt-ltb}
use Rattle.rx_spec.proofs.Prelude.{ltb-true, get_or-map-range_with_len, length-map-range_with_len, max_id, IsSound}
use Rattle.rx_spec.proofs.Prelude.{is_match, leaving}
use Rattle.rx_order.proofs.Prelude.{IsAccelerated, IsInOrder, IsPermuted, Layout, Special, accel_count, are_needles}
use Rattle.rx_order.proofs.Prelude.{every_in_range, filter_alike, is_marked, is_skippable, is_start_id, is_start_row}
use Rattle.rx_order.proofs.Prelude.{leaving_of, lists_in, machine_of, place_in_range, quotient, row-below, row_count}
use Rattle.rx_order.proofs.Prelude.{special_ids, stride, table_of, with_patterns}
use Rattle.rx_dense.specs.Layouts.{IsRowId}
use Rattle.rx_order.proofs.Leaving.{leaving_is}
use Rattle.rx_order.proofs.MatchRows.{HasPatterns, joined, label_of_lists, lists_are, lists_count, low_match}
use Rattle.rx_order.proofs.MatchRows.{place_from, range_count}
use Rattle.rx_order.proofs.KindRanges.{end_high, ends_quit, from_end, is_between}
use Rattle.rx_order.proofs.Ordered.{IsArranged, Sorting, accel_id, accel_is, kind_ends, kind_at, low_kind, low_row}
use Rattle.rx_order.proofs.Ordered.{number, ordered, permuted, row_at, kind_is, quit, size_same, some, special_is}
use Rattle.rx_order.proofs.Ordered.{stride_same, to_end, specials, start_is, start_row_is, IsArranging, patterns_given}
use Rattle.rx_order.proofs.Ordered as Ordered
use Rattle.rx_order.proofs.KindNumbers.{at_most, kind_matches, same_test}
use Rattle.rx_order.proofs.Reordered.{next_below, number_below, number_of_place, numbers, row_at_number, row_of_place}
use Rattle.rx_order.proofs.Runs.{HasNeedles, permuted_moved}
use Rattle.rx_order.proofs.Sound.{frame, sound}
use Rattle.rx_order.proofs.Unskipped.{low_none}

-- by the kinds of its rows, with those accelerated from which a search may skip
abbrev pub sorting : (old : Layout) (kinds rows ends : List ℕ) → Sorting
sorting old kinds rows ends = record {
  kinds = kinds;
  rows = rows;
  ends = ends;
  marked = is_marked old;
  matches = is_match (table_of old);
  accelerated = λ row. are_needles (leaving_of (table_of old) row);
}

-- what the call learns of a table, and what its calls leave
pub record IsAccelerating (old : Layout) (kinds rows ends : List ℕ) (next new m : Layout) : Type 0 where
  pub in_order : IsInOrder old
  pub few : length (concat (lists_in old rows ends)) ≤ max_id
  pub arranging : IsArranging (sorting old kinds rows ends) old (lists_in old rows ends) next new m
  pub accels : m.accels ≡ map (λ place. leaving_of (table_of old) (slice_index rows place))
      (range_with_len (slice_index ends 2) (slice_index ends 5 - slice_index ends 2))

-- ---- filters

needle_parts : (xs : List ℕ) → are_needles xs ≡ true → (1 ≤ length xs) × (length xs ≤ 3)
needle_parts xs e = grind (arith, common_steps, and_parts, leb-true)

module _ {old : Layout} {kinds rows ends : List ℕ} {next new m : Layout}
    (s : IsAccelerating old kinds rows ends next new m) where
  abbrev lists : List (List ℕ)
  lists = lists_in old rows ends

  abbrev l : Layout
  l = with_patterns old lists

  sound_old : IsSound (table_of old)
  sound_old = s.in_order.sound

  arranged : IsArranged (sorting old kinds rows ends) l new m
  arranged = Ordered.arranged s.arranging

  -- ---- the patterns

  has_patterns : HasPatterns ends m lists
  has_patterns = patterns_given s.arranging (lists_count old rows ends (ends_quit (kind_ends arranged)))

  -- ---- what each row tells

  told : (row : ℕ) → row < row_count old
      → (table_of m).machine.label (number arranged row) ≡ (table_of old).machine.label row
  told row h =
      let place : ℕ = number arranged row in
      let below = number_below arranged.reordered arranged.before row h in
      let back = row_at_number arranged.reordered arranged.before row h in
      label_of_lists (specials arranged) old rows has_patterns sound_old.is_table place
      (omega (arith, below, size_same arranged)) (row_of_place arranged.reordered arranged.before place below)
      (λ e. ap (number arranged) (sym back ∙ e) ∙ quit arranged)
      (λ e. ap (row_at arranged) e ∙ low_row arranged 1 (omega arith))
      (ap (is_between 1 3) (kind_is arranged place below)
      ∙ kind_matches (row_at arranged place) (is_match (table_of old) (row_at arranged place))
      (are_needles (leaving_of (table_of old) (row_at arranged place))) (is_start_row old (row_at arranged place))
      (low_match (table_of old) sound_old.is_table (row_at arranged place)))
      ∙ ap (table_of old).machine.label back

  -- ---- the rows from which a search may skip

  -- a row keeps the bytes that lead it elsewhere
  leaving_same : (place : ℕ) → place < row_count old
      → leaving (table_of m) place ≡ leaving (table_of old) (row_at arranged place)
  leaving_same place h =
      filter_alike (λ b. not ((machine_of m).next place b == place))
      (λ b. not ((machine_of old).next (row_at arranged place) b == row_at arranged place)) (range_with_len 0 256)
      (every_in_range (λ b. not ((machine_of m).next place b == place)
      ≡ not ((machine_of old).next (row_at arranged place) b == row_at arranged place)) 0 256
      (λ b low high. ap not (same_next b (omega (arith, high)))))
    where
      same_next : (b : ℕ) → b < 257
          → ((machine_of m).next place b == place)
          ≡ ((machine_of old).next (row_at arranged place) b == row_at arranged place)
      same_next b u =
          let own = row_of_place arranged.reordered arranged.before place h in
          let back = number_of_place arranged.reordered arranged.before place h in
          let to = (machine_of old).next (row_at arranged place) b in
          let below = next_below arranged.reordered arranged.before (row_at arranged place) b own u in
          let next : (machine_of m).next place b ≡ number arranged to =
          ap (λ p. (machine_of m).next p b) (sym back) ∙ (permuted arranged).nexts (row_at arranged place) b own u in
          same_test
          (λ e.
          sym (row_at_number arranged.reordered arranged.before to below) ∙ ap (row_at arranged) (sym next ∙ e))
          (λ e. next ∙ ap (number arranged) e ∙ back)

  accelerated : (place : ℕ) → place < row_count m
      → (table_of m).is_accelerated place ≡ is_skippable (table_of m) place
  accelerated place b =
      let h : place < row_count old = omega (arith, size_same arranged) in
      ⊎_elim
      (λ (high : 1 < place).
      accel_is arranged place h high
      ∙ ap are_needles (leaving_is (table_of old) (row_at arranged place) ∙ sym (leaving_same place h))
      ∙ sym (ap (λ c. c && are_needles (leaving (table_of m) place)) (lt-ltb 2 (row_count m) (omega arith))))
      (λ (low : place ≤ 1).
      let row = low_row arranged place low in
      accel_id arranged place h
      ∙ ap (λ c. c && nat_le (kind_at arranged place) 5) (le-ltb 2 (kind_at arranged place) (omega
      (arith, low_kind arranged place low)))
      ∙ sym (ap (λ c. nat_lt 2 (row_count m) && c)
      (ap are_needles (leaving_same place h) ∙ low_none sound_old (row_at arranged place) (omega (arith, row)))
      ∙ and-false (nat_lt 2 (row_count m))))
      (cases_lt 1 place)

  -- ---- needles

  skips : (place : ℕ) → place < row_count m → (table_of m).is_accelerated place ≡ true
      → (table_of m).needles place ≡ leaving (table_of m) place
  skips place b e =
      let h : place < row_count old = omega (arith, size_same arranged) in
      let kinds_in = and_parts (nat_lt 2 (kind_at arranged place)) (nat_le (kind_at arranged place) 5)
      (sym (accel_id arranged place h) ∙ e) in
      let low : slice_index ends 2 ≤ place =
      leb-true (slice_index ends 2) place (from_end (kind_ends arranged) place 2 h (omega arith) ∙ kinds_in.0) in
      let high : place < slice_index ends 5 =
      ltb-true place (slice_index ends 5) (to_end arranged place 5 h (omega arith) ∙ kinds_in.1) in
      let first : m.special.min_accel ≡ slice_index ends 2 * stride old =
      ap (λ (k : Special). k.min_accel) (special_is arranged)
      ∙ ap (λ b. if b then slice_index ends 2 * stride old else 0)
      (lt-ltb (slice_index ends 2) (slice_index ends 5) (omega arith)) in
      let at : place_in_range m m.special.min_accel (place * stride m) ≡ place - slice_index ends 2 =
      ap₂ (λ (first w : ℕ). (place * w - first) / w) first (stride_same arranged)
      ∙ place_from (slice_index ends 2) place (stride old) (some arranged) low in
      let whole : slice_index ends 2 + (place - slice_index ends 2) ≡ place = omega arith in
      ap (λ b. if b then get_or m.accels (place_in_range m m.special.min_accel (place * stride m)) [] else []) e
      ∙ ap₂ (λ (accels : List (List ℕ)) (i : ℕ). get_or accels i []) s.accels at
      ∙ get_or-map-range_with_len (λ place. leaving_of (table_of old) (slice_index rows place)) (slice_index ends 2)
      (slice_index ends 5 - slice_index ends 2) (place - slice_index ends 2) place [] (omega arith) whole
      ∙ leaving_is (table_of old) (row_at arranged place) ∙ sym (leaving_same place h)

  skip_bytes : (place : ℕ) → place < row_count m → (table_of m).is_accelerated place ≡ true
      → are_needles (leaving (table_of m) place) ≡ true
  skip_bytes place b e =
      (and_parts (nat_lt 2 (row_count m)) (are_needles (leaving (table_of m) place)) (sym (accelerated place b) ∙ e)).1

  has_needles : HasNeedles (table_of m)
  has_needles = record {
    needles = skips;
    some_needle = λ place b e.
        let parts = needle_parts (leaving (table_of m) place) (skip_bytes place b e) in
        subst (λ (xs : List ℕ). 1 ≤ length xs) (sym (skips place b e)) parts.0;
    few_needles = λ place b e.
        let parts = needle_parts (leaving (table_of m) place) (skip_bytes place b e) in
        subst (λ (xs : List ℕ). length xs ≤ 3) (sym (skips place b e)) parts.1;
  }

  -- there are as many lists of needles as there are accelerated rows
  counted : length m.accels ≡ accel_count m
  counted =
      let first : ℕ = slice_index ends 2 in
      let last : ℕ = slice_index ends 5 in
      let high = end_high (kind_ends arranged) 2 (omega arith) (omega arith) in
      ap length s.accels
      ∙ length-map-range_with_len (λ place. leaving_of (table_of old) (slice_index rows place)) first (last - first)
      ∙ sym (ap₂ (λ (x : Special) (w : ℕ). if x.min_accel == 0 then 0 else (x.max_accel - x.min_accel) / w + 1)
      (special_is arranged) (stride_same arranged)
      ∙ range_count (stride old) first last (some arranged) (omega (arith, high)))

  -- ---- marks

  -- where start rows were marked there was one, and it is marked still
  marked_same : is_marked m ≡ is_marked old
  marked_same = by_mark (is_marked old) refl
    where
      by_mark : (b : Bool) → is_marked old ≡ b → is_marked m ≡ is_marked old
      by_mark false e =
          ap (λ (k : Special). not (k.min_start == 0)) (special_is arranged)
          ∙ ap (λ b. not ((special_ids (stride old) ends b).min_start == 0)) e ∙ sym e
      by_mark true e =
          ⊎_elim
          (λ (none : (old.special.min_start ≡ 0) × (old.special.max_start ≡ 0)).
          absurd (false≢true (sym (ap not (eq-eqb old.special.min_start 0 none.0)) ∙ e)))
          (λ (range : (stride old < old.special.min_start) × (old.special.min_start ≤ old.special.max_start)
          × IsRowId old old.special.min_start × IsRowId old old.special.max_start).
          let id : ℕ = old.special.min_start in
          let row : ℕ = id / stride old in
          let below = row-below old id range.2 in
          let inside : is_start_id old.special id ≡ true =
          ap₂ (λ (a b : Bool). a && b && not (id == 0)) (at_most id id (omega arith))
          (at_most id old.special.max_start range.1)
          ∙ e in
          let starts = (and_parts (is_marked old) (is_start_row old row)
          (sym (s.in_order.ordered.marks row below)
          ∙ ap (is_start_id old.special) (quotient id (stride old) range.2.whole) ∙ inside)).1 in
          let place : ℕ = number arranged row in
          let there = number_below arranged.reordered arranged.before row below in
          let here : is_start_row m place ≡ true =
          start_row_is arranged place there
          ∙ ap (is_start_row old) (row_at_number arranged.reordered arranged.before row below) ∙ starts in
          let both = λ (b : Bool). ap (λ c. b && c) here ∙ and-true b in
          sym (both (is_marked m)) ∙ sym ((ordered arranged).marks place (omega (arith, size_same arranged)))
          ∙ start_is arranged place there ∙ both (is_marked old))
          s.in_order.ordered.starts

  -- ---- all of it

  moved : IsPermuted (numbers arranged.reordered arranged.before) (table_of old) (table_of m)
  moved = let p = permuted arranged in search rules

  pub accelerating : IsAccelerated old m
  accelerating = record {
    numbers = numbers arranged.reordered arranged.before;
    permuted = moved;
    labels = told;
    accelerated = accelerated;
    counted = counted;
    starts = λ row h.
        start_row_is arranged (number arranged row) (number_below arranged.reordered arranged.before row h)
        ∙ ap (is_start_row old) (row_at_number arranged.reordered arranged.before row h);
    marked = marked_same;
    in_order = record {
      sound =
          sound arranged (permuted_moved sound_old.is_table.entries sound_old.is_table.nexts moved told).names
          (record {
            is_table = sound_old.is_table;
            eoi_goes_on = sound_old.eoi_goes_on;
            starts_plain = sound_old.starts_plain;
            patterns = sound_old.patterns;
          })
          refl refl has_needles;
      ordered = ordered arranged;
      few =
          subst (λ (ls : List (List ℕ)). length (concat ls) ≤ max_id)
          (sym (lists_are (specials arranged) has_patterns)) s.few;
    };
    joined = joined (specials arranged) has_patterns;
    rest = frame arranged;
  }
