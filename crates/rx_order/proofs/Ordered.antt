-- Tables whose rows lie in the order of their kinds: which ids are special, and which rows these are.
use Rattle.rx_spec.proofs.Prelude.{rules, ◌≡◌, ◌≢◌, ℕ, zero, suc, ◌+◌, ◌-◌, ◌*◌, ◌<◌, ◌≤◌, ◌&&◌, nat_lt, nat_le, Bool}
use Rattle.rx_spec.proofs.Prelude.{false, List, length, slice_index, refl, ap, ap₂, sym, ◌∙◌, ⊎_elim, arith}
use Rattle.rx_spec.proofs.Prelude.{common_steps, cases_eq, cases_lt, lt-ltb, le-ltb, div-add-mod', mul-le, pow_pos}
use Rattle.rx_spec.proofs.Prelude.{max_id, is_match, subst, range_with_len, IsPermutation, true}
use Rattle.rx_order.proofs.Prelude.{AreByKind, AreKindEnds, AreKinds, AreStarts, IsPermuted, IsReordered, Layout}
use Rattle.rx_order.proofs.Prelude.{is_accel_id, is_start_row, kind_by, kind_of, machine_of, row_count, rows_kept}
use Rattle.rx_order.proofs.Prelude.{special_ids, starts_kept, stride, table_of, with_patterns}
use Rattle.rx_dense.specs.Layouts.{AreRows}
use Rattle.rx_order.specs.RowOrder.{IsOrdered}
use Rattle.rx_order.proofs.Reordered.{IsBefore, any_start, entry_of, next_of_row, number_below, number_of_place}
use Rattle.rx_order.proofs.Reordered.{numbers, permutation, row_at_number, row_of_place, size, stride_is, two_rows}
use Rattle.rx_order.proofs.KindNumbers.{high_kind, at_most, over, kind_high, high_above, row_first, row_dead}
use Rattle.rx_order.proofs.KindNumbers.{high_matches, high_accels, high_starts, kind_low, label_match}
use Rattle.rx_order.proofs.KindRanges.{HasSpecials, is_between}
use Rattle.rx_order.proofs.KindRanges as KindRanges
use Rattle.rx_order.proofs.MatchRows.{HasPatterns}

-- ---- ids of places

-- where a kind ends there is an id, or the end of the table
pub ends_few : (l : Layout) (kinds rows ends : List ℕ) → AreByKind kinds rows ends → length kinds ≡ row_count l
    → AreRows l
    → (kind : ℕ) → kind < 8 → slice_index ends kind * stride l ≤ max_id + stride l
ends_few l kinds rows ends by_kind count are kind h =
    let few = are.few in
    let within : slice_index ends kind ≤ row_count l =
    ⊎_elim
    (λ (past : row_count l < slice_index ends kind).
    absurd (omega (arith, (by_kind.before (row_count l) kind h past).0, count)))
    (λ (low : slice_index ends kind ≤ row_count l). low)
    (cases_lt (row_count l) (slice_index ends kind)) in
    omega (
      arith,
      mul-le (slice_index ends kind) (stride l) (row_count l) (stride l) within (omega arith),
      div-add-mod' (length l.words) (stride l),
    )

-- ---- a table in order

-- by what rows are put in order: the kind of each row, the row at each place, where each kind ends, whether start rows
-- are marked, and which rows are match rows and accelerated
pub record Sorting : Type 0 where
  pub kinds : List ℕ
  pub rows : List ℕ
  pub ends : List ℕ
  pub marked : Bool
  pub matches : ℕ → Bool
  pub accelerated : ℕ → Bool

-- a table is moved, renamed and marked so
pub record IsArranged (x : Sorting) (l new m : Layout) : Type 0 where
  pub before : IsBefore l x.rows
  pub reordered : IsReordered x.rows l new
  pub kinds : AreKinds l x.matches x.accelerated x.kinds
  pub by_kind : AreByKind x.kinds x.rows x.ends
  pub plain : (row : ℕ) → x.matches row ≡ true → is_start_row l row ≡ false
  pub rest : m ≡ record new {
    slices = m.slices;
    pattern_ids = m.pattern_ids;
    special = special_ids (stride l) x.ends x.marked;
    accels = m.accels;
  }

module _ {x : Sorting} {l new m : Layout} (a : IsArranged x l new m) where
  pub some : 0 < stride l
  some = pow_pos l.stride2

  -- the number of a row
  abbrev pub number : ℕ → ℕ
  number row = slice_index (numbers a.reordered a.before) row

  abbrev pub row_at : ℕ → ℕ
  row_at place = slice_index x.rows place

  abbrev pub kind_at : ℕ → ℕ
  kind_at place = slice_index x.kinds (slice_index x.rows place)

  abbrev pub end : ℕ → ℕ
  end kind = slice_index x.ends kind

  pub kind_is : (place : ℕ) → place < row_count l
      → kind_at place
      ≡ kind_by (row_at place) (x.matches (row_at place)) (x.accelerated (row_at place)) (is_start_row l (row_at place))
  kind_is place h = a.kinds.kinds_are (row_at place) (row_of_place a.reordered a.before place h)

  -- the first kinds are those of dead and quit
  quit_kind : (place : ℕ) → place < row_count l → kind_at place ≤ 1 → row_at place ≤ 1
  quit_kind place h low = grind (arith, common_steps, row_first, kind_is)

  dead_kind : (place : ℕ) → place < row_count l → kind_at place ≤ 0 → row_at place ≡ 0
  dead_kind place h low = grind (arith, common_steps, row_dead, kind_is)

  pub kind_of_number : (row : ℕ) → row < row_count l
      → kind_at (number row) ≡ kind_by row (x.matches row) (x.accelerated row) (is_start_row l row)
  kind_of_number row h = ap (slice_index x.kinds) (row_at_number a.reordered a.before row h) ∙ a.kinds.kinds_are row h

  pub before_end : (place kind : ℕ) → kind < 8 → place < end kind → (place < row_count l) × (kind_at place ≤ kind)
  before_end place kind h b =
      let at = a.by_kind.before place kind h b in
      (omega (arith, at.0, a.kinds.count), at.1)

  pub behind_end : (place kind : ℕ) → place < row_count l → kind < 8 → end kind ≤ place → kind < kind_at place
  behind_end place kind b h past = a.by_kind.behind place kind (omega (arith, a.kinds.count)) h past

  two : 2 ≤ row_count l
  two = two_rows a.reordered a.before

  -- ---- dead and quit

  first_row : row_at 0 ≡ 0
  first_row =
      let zero_below : 0 < row_count l = omega (arith, two) in
      let place = number_below a.reordered a.before 0 zero_below in
      let kind = kind_of_number 0 zero_below in
      ⊎_elim
      (λ (low : number 0 < end 0).
      let at = before_end 0 0 (omega arith) (omega (arith, low)) in
      dead_kind 0 zero_below at.1)
      (λ (high : end 0 ≤ number 0).
      absurd (omega (arith, behind_end (number 0) 0 place (omega arith) high, kind)))
      (cases_lt (number 0) (end 0))

  pub dead : number 0 ≡ 0
  dead = ap number (sym first_row) ∙ number_of_place a.reordered a.before 0 (omega (arith, two))

  quit_place : 1 < end 1
  quit_place =
      let place = number_below a.reordered a.before 1 two in
      let kind = kind_of_number 1 two in
      let other : number 1 ≢ 0 = λ e.
      let none : 1 ≡ 0 = sym (row_at_number a.reordered a.before 1 two) ∙ ap row_at e ∙ first_row in
      omega (arith, none) in
      ⊎_elim
      (λ (low : number 1 < end 1). omega (arith, low, other))
      (λ (high : end 1 ≤ number 1).
      absurd (omega (arith, behind_end (number 1) 1 place (omega arith) high, kind)))
      (cases_lt (number 1) (end 1))

  second_row : row_at 1 ≡ 1
  second_row =
      let at = before_end 1 1 (omega arith) quit_place in
      let low = quit_kind 1 at.0 at.1 in
      let other : row_at 1 ≢ 0 = λ e.
      let none : 1 ≡ 0 = sym (number_of_place a.reordered a.before 1 at.0) ∙ ap number e ∙ dead in
      omega (arith, none) in
      omega (arith, low, other)

  pub quit : number 1 ≡ 1
  quit = ap number (sym second_row) ∙ number_of_place a.reordered a.before 1 two

  -- the row at a place behind quit lies behind quit
  pub high_row : (place : ℕ) → place < row_count l → 1 < place → 1 < row_at place
  high_row place h high = by_row (row_at place) (number_of_place a.reordered a.before place h)
    where
      by_row : (row : ℕ) → number row ≡ place → 1 < row
      by_row zero e = absurd (omega (arith, dead, e, high))
      by_row (suc zero) e = absurd (omega (arith, quit, e, high))
      by_row (suc (suc row)) e = omega arith

  pub low_row : (place : ℕ) → place ≤ 1 → row_at place ≡ place
  low_row place h = grind (arith, common_steps, first_row, second_row, cases_eq)

  pub low_kind : (place : ℕ) → place ≤ 1 → kind_at place ≡ place
  low_kind place h = grind (arith, common_steps, two, kind_is, low_row, cases_eq)

  -- ---- ends

  pub end_within : (kind : ℕ) → kind < 8 → end kind ≤ row_count l
  end_within kind h =
      ⊎_elim
      (λ (past : row_count l < end kind).
      absurd (omega (arith, (before_end (row_count l) kind h past).0)))
      (λ (within : end kind ≤ row_count l). within)
      (cases_lt (row_count l) (end kind))

  pub to_end : (place kind : ℕ) → place < row_count l → kind < 8 → nat_lt place (end kind) ≡ nat_le (kind_at place) kind
  to_end place kind b h = grind (arith, common_steps, lt-ltb, at_most, before_end, le-ltb, over, behind_end, cases_lt)

  pub high_kind_is : (place : ℕ) → place < row_count l → 1 < place
      → kind_at place
      ≡ high_kind (x.matches (row_at place)) (x.accelerated (row_at place)) (is_start_row l (row_at place))
  high_kind_is place h high = grind (arith, common_steps, kind_is, kind_high, high_row)

  pub high_at : (place : ℕ) → place < row_count l → 1 < place → 1 < kind_at place
  high_at place h high = grind (arith, common_steps, high_kind_is, high_above)

  pub kind_ends : AreKindEnds (row_count l) kind_at x.ends
  kind_ends = grind (arith, common_steps, two, dead, low_kind, quit, high_at, end_within, to_end)

  -- ---- the table's rows

  pub special_is : m.special ≡ special_ids (stride l) x.ends x.marked
  special_is = ap (λ (k : Layout). k.special) a.rest

  pub stride_same : stride m ≡ stride l
  stride_same = ap (λ (k : Layout). stride k) a.rest ∙ stride_is a.reordered a.before

  pub size_same : row_count m ≡ row_count l
  size_same = ap (λ (k : Layout). row_count k) a.rest ∙ size a.reordered a.before

  pub specials : HasSpecials m x.marked kind_at x.ends
  specials = grind (arith, common_steps, size_same, kind_ends, special_is, stride_same)

  pub accel_id : (place : ℕ) → place < row_count l
      → is_accel_id m.special (place * stride m) ≡ is_between 2 5 (kind_at place)
  accel_id place h = KindRanges.accel_id specials place (omega (arith, size_same))

  pub match_is : (place : ℕ) → place < row_count l → 1 < place → is_match (table_of m) place ≡ x.matches (row_at place)
  match_is place h high =
      search (rules, KindRanges.match_id specials, size_same, is_between, high_kind_is, high_matches, label_match)

  pub accel_is : (place : ℕ) → place < row_count l → 1 < place
      → (table_of m).is_accelerated place ≡ x.accelerated (row_at place)
  accel_is place h high = grind (arith, common_steps, accel_id, is_between, high_kind_is, high_accels)

  -- ---- start rows

  pub start_row_is : (place : ℕ) → place < row_count l → is_start_row m place ≡ is_start_row l (row_at place)
  start_row_is place h =
      ap (λ (k : Layout). is_start_row k place) a.rest
      ∙ ap₂ (λ (b c : Bool). b && c) behind (any_start a.reordered a.before place h)
    where
      behind : nat_lt 1 place ≡ nat_lt 1 (row_at place)
      behind = grind (arith, common_steps, lt-ltb, le-ltb, high_row, low_row, cases_lt)

  -- the kinds of start rows are theirs
  pub start_kinds : (place : ℕ) → place < row_count l
      → is_between 4 6 (kind_at place) ≡ is_start_row m place
  start_kinds place h =
      ⊎_elim
      (λ (high : 1 < place).
      ap (is_between 4 6) (high_kind_is place h high)
      ∙ high_starts (x.matches (row_at place)) (x.accelerated (row_at place)) (is_start_row l (row_at place))
      (a.plain (row_at place))
      ∙ sym (start_row_is place h))
      (λ (low : place ≤ 1).
      rw (le-ltb 1 place low, le-ltb 4 (kind_at place) (omega (arith, low_kind place low))) refl)
      (cases_lt 1 place)

  -- ---- the order

  pub kind_of_is : (place : ℕ) → place < row_count l → kind_of m place ≡ kind_at place
  kind_of_is place h =
      ⊎_elim
      (λ (high : 1 < place).
      kind_high place (is_match (table_of m) place) ((table_of m).is_accelerated place) (is_start_row m place) high
      ∙ ap (λ b. high_kind b ((table_of m).is_accelerated place) (is_start_row m place)) (match_is place h high)
      ∙ ap₂ (λ (b c : Bool). high_kind (x.matches (row_at place)) b c) (accel_is place h high) (start_row_is place h)
      ∙ sym (high_kind_is place h high))
      (λ (low : place ≤ 1).
      kind_low place (is_match (table_of m) place) ((table_of m).is_accelerated place) (is_start_row m place) low
      ∙ sym (low_kind place low))
      (cases_lt 1 place)

  kinds_here : (place : ℕ) → place < row_count m → kind_of m place ≡ kind_at place
  kinds_here place h = kind_of_is place (omega (arith, size_same))

  starts_here : (place : ℕ) → place < row_count m → is_between 4 6 (kind_at place) ≡ is_start_row m place
  starts_here place h = start_kinds place (omega (arith, size_same))

  pub start_is : (place : ℕ) → place < row_count l
      → (table_of m).is_start place ≡ (x.marked && is_start_row m place)
  start_is place h = KindRanges.start_is specials kinds_here starts_here place (omega (arith, size_same))

  pub ordered : IsOrdered m
  ordered = KindRanges.ordered specials kinds_here starts_here

  -- ---- the rows that lie at other places

  pub permuted : IsPermuted (numbers a.reordered a.before) (table_of l) (table_of m)
  permuted = record {
    permutation = permutation a.reordered a.before;
    size = size_same;
    dead = dead;
    quit = quit;
    entries = λ mode start.
        ap (λ (k : Layout). (machine_of k).entry mode start) a.rest ∙ entry_of a.reordered a.before dead mode start;
    nexts = λ row unit h u.
        ap (λ (k : Layout). (machine_of k).next (number row) unit) a.rest
        ∙ next_of_row a.reordered a.before row unit h u;
  }

-- ---- what a call makes

-- by what it learns of a table and what its calls leave: patterns are given, rows move, and special ids are set
pub record IsArranging (x : Sorting) (old : Layout) (lists : List (List ℕ)) (next new m : Layout) : Type 0 where
  pub are_rows : AreRows old
  pub are_starts : AreStarts old
  pub kinds_are : AreKinds old x.matches x.accelerated x.kinds
  pub by_kind : AreByKind x.kinds x.rows x.ends
  pub plain : (row : ℕ) → x.matches row ≡ true → is_start_row old row ≡ false
  pub next_is : next ≡ with_patterns old lists
  pub reordered : IsReordered x.rows next new
  pub set : m ≡ record new { accels = m.accels; special = special_ids (stride new) x.ends x.marked }

module _ {x : Sorting} {old : Layout} {lists : List (List ℕ)} {next new m : Layout}
    (s : IsArranging x old lists next new m) where
  abbrev given : Layout
  given = with_patterns old lists

  reordered : IsReordered x.rows given new
  reordered = subst (λ k. IsReordered x.rows k new) s.next_is s.reordered

  before : IsBefore given x.rows
  before = record {
    are_rows = rows_kept old given refl refl refl s.are_rows;
    are_starts = starts_kept old given refl (omega arith) refl refl refl s.are_starts;
    order = subst (λ n. IsPermutation (range_with_len 0 n) x.rows) s.kinds_are.count s.by_kind.permutation;
  }

  pub arranged : IsArranged x given new m
  arranged = record {
    before = before;
    reordered = reordered;
    kinds = record { count = s.kinds_are.count; kinds_are = s.kinds_are.kinds_are };
    by_kind = s.by_kind;
    plain = s.plain;
    rest =
        subst (λ (k : Layout). k ≡ record new {
          slices = k.slices;
          pattern_ids = k.pattern_ids;
          special = special_ids (stride given) x.ends x.marked;
          accels = k.accels;
        })
        (sym (s.set ∙ ap (λ w. record new { accels = m.accels; special = special_ids w x.ends x.marked })
        (stride_is reordered before))) refl;
  }

  pub arranging_ends : (kind : ℕ) → kind < 8 → slice_index x.ends kind * stride new ≤ max_id + stride new
  arranging_ends kind h =
      subst (λ w. slice_index x.ends kind * w ≤ max_id + w) (sym (stride_is reordered before))
      (ends_few old x.kinds x.rows x.ends s.by_kind s.kinds_are.count s.are_rows kind h)

  pub patterns_given : length lists ≡ slice_index x.ends 3 - 2 → HasPatterns x.ends m lists
  patterns_given count = record {
    count = count;
    slices =
        ap (λ (k : Layout). k.slices) s.set ∙ ap (λ (k : Layout). k.slices) reordered.is
        ∙ ap (λ (k : Layout). k.slices) reordered.moved.rest;
    pattern_ids =
        ap (λ (k : Layout). k.pattern_ids) s.set ∙ ap (λ (k : Layout). k.pattern_ids) reordered.is
        ∙ ap (λ (k : Layout). k.pattern_ids) reordered.moved.rest;
  }
