-- A table whose rows lie at other places is the same powerset machine.
use Rattle.rx_spec.proofs.Prelude.{cases_eq, common_steps, ◌≡◌, ℕ, zero, suc, ◌+◌, ◌-◌, ◌<◌, ◌≤◌, List, length, map}
use Rattle.rx_spec.proofs.Prelude.{get_or, slice_index, ap, sym, subst, ◌∙◌, ⊎_elim, arith, cases_lt, get_or_default}
use Rattle.rx_spec.proofs.Prelude.{All-from_get_or, All-get_or, get_or-map-range_with_len, length-map-range_with_len}
use Rattle.rx_spec.proofs.Prelude.{range_with_len, Build, AreReached, IsReached, next_node, node_label, IsPower}
use Rattle.rx_spec.proofs.Prelude.{node_at, State, dead_state, Table}
use Rattle.rx_dense.specs.Layouts.{Layout, machine_of, row_count, table_of}
use Rattle.rx_dense.specs.MatchRows.{Matches, label_by}
use Rattle.rx_determinize.specs.Building.{HasStates}
use Rattle.rx_spec.specs.Builds as builds
use Rattle.rx_order.proofs.Runs.{HasMoved, high_row, label_at, next_at, permuted_moved}
use Rattle.rx_order.specs.Permuted.{IsPermuted}

-- the node of a row behind dead and quit
node_high : (states : List State) (row : ℕ) → 1 < row → row < length states + 2
    → node_at states row ≡ builds.Running (get_or states (row - 2) dead_state)
node_high states zero high h = absurd (omega arith)
node_high states (suc zero) high h = absurd (omega arith)
node_high states (suc (suc i)) high h =
    let index : i ≡ suc (suc i) - 2 = omega arith in
    grind (arith, common_steps)

-- of other rows the states say nothing
node_low : (states other : List State) (row : ℕ) → row ≤ 1 → node_at states row ≡ node_at other row
node_low states other row low = grind (arith, common_steps, cases_eq, cases_lt)

module _ {b : Build} {t u : Table} (m : HasMoved t u) (by : IsPower t b) where
  abbrev states : List State
  states = by.states

  abbrev count : ℕ
  count = length states

  abbrev number : ℕ → ℕ
  number = m.names.name

  abbrev old_row : ℕ → ℕ
  old_row = m.names.row_at

  -- dead and quit keep their numbers, and the other rows are behind them still
  number_low : (row : ℕ) → row ≤ 1 → number row ≡ row
  number_low row low = grind (arith, common_steps, cases_eq, cases_lt, m.names.dead, m.names.quit)

  number_below : (row : ℕ) → row < t.size → number row < t.size
  number_below row h = omega (arith, m.size, m.names.names_below row h)

  number_high : (row : ℕ) → 1 < row → row < t.size → 1 < number row
  number_high row high h =
      ⊎_elim
      (λ (l : 1 < number row). l)
      (λ (low : number row ≤ 1).
      let same = sym (m.back (number row) (number_below row h)) ∙ ap old_row (number_low (number row) low)
      ∙ m.back row h in
      absurd (omega (arith, same)))
      (cases_lt 1 (number row))

  state_at : ℕ → State
  state_at i = get_or states (old_row (i + 2) - 2) dead_state

  moved : List State
  moved = map state_at (range_with_len 0 count)

  moved_count : length moved ≡ count
  unfolding moved
  moved_count = length-map-range_with_len state_at 0 count

  -- a row's place behind dead and quit, before and after
  old_place : (i : ℕ) → i < count → (old_row (i + 2) - 2 < count) × (old_row (i + 2) - 2 + 2 ≡ old_row (i + 2))
  old_place i low = grind (arith, common_steps, high_row m.names, by.size, m.size, m.names.rows_below)

  moved_at : (i : ℕ) (d : State) → i < count → get_or moved i d ≡ get_or states (old_row (i + 2) - 2) d
  unfolding moved state_at
  moved_at i d low =
      get_or-map-range_with_len state_at 0 count i i d low (omega arith)
      ∙ get_or_default states (old_row (i + 2) - 2) dead_state d (old_place i low).0

  -- the state at a row's number is the row's
  moved_number : (row : ℕ) (d : State) → 1 < row → row < t.size
      → get_or moved (number row - 2) d ≡ get_or states (row - 2) d
  moved_number row d high low =
      let above = number_high row high low in
      let below = number_below row low in
      let place : number row - 2 + 2 ≡ number row = omega arith in
      let back = ap old_row place ∙ m.back row low in
      let index : old_row (number row - 2 + 2) - 2 ≡ row - 2 = omega (arith, back) in
      moved_at (number row - 2) d (omega (arith, by.size)) ∙ ap (λ i. get_or states i d) index

  node_is : (row : ℕ) → row < t.size → node_at moved (number row) ≡ node_at states row
  node_is row low =
      ⊎_elim
      (λ (high : 1 < row).
      let above = number_high row high low in
      let below = number_below row low in
      node_high moved (number row) above (omega (arith, moved_count, by.size))
      ∙ ap (λ s. builds.Running s) (moved_number row dead_state high low)
      ∙ sym (node_high states row high (omega (arith, by.size))))
      (λ (few : row ≤ 1). ap (node_at moved) (number_low row few) ∙ node_low moved states row few)
      (cases_lt 1 row)

  one_place : (i j : ℕ) (d : State) → i < count → j < count → get_or states i d ≡ get_or states j d → i ≡ j
  one_place i j d li lj e =
      ⊎_elim
      (λ (less : i < j). absurd (by.reached.distinct i j d less lj e))
      (λ (ge : j ≤ i). ⊎_elim
      (λ (less : j < i). absurd (by.reached.distinct j i d less li (sym e)))
      (λ (le : i ≤ j). omega arith)
      (cases_lt j i))
      (cases_lt i j)

  -- each state that is reached is there, and once
  moved_reached : AreReached b moved
  moved_reached = record {
    distinct =
        λ i j d less low e.
        let lj : j < count = omega (arith, moved_count) in
        let li : i < count = omega arith in
        let pi = old_place i li in
        let pj = old_place j lj in
        let same : get_or states (old_row (i + 2) - 2) d ≡ get_or states (old_row (j + 2) - 2) d =
        sym (moved_at i d li) ∙ e ∙ moved_at j d lj in
        let one = one_place (old_row (i + 2) - 2) (old_row (j + 2) - 2) d pi.0 pj.0 same in
        let rows : old_row (i + 2) ≡ old_row (j + 2) = omega (arith, pi.1, pj.1, one) in
        let places = sym (m.names.named (i + 2) (omega (arith, by.size, m.size))) ∙ ap number rows
        ∙ m.names.named (j + 2) (omega (arith, by.size, m.size)) in
        absurd (omega (arith, places));
    only =
        All-from_get_or (IsReached b) moved dead_state
        (λ i low.
        let li : i < count = omega (arith, moved_count) in
        subst (IsReached b) (sym (moved_at i dead_state li))
        (All-get_or (IsReached b) states (old_row (i + 2) - 2) dead_state (old_place i li).0 by.reached.only));
    all =
        λ s is.
        let there = by.reached.all s is in
        let row : ℕ = there.0 + 2 in
        let low : row < t.size = omega (arith, by.size, there.1) in
        let above = number_high row (omega arith) low in
        let below = number_below row low in
        let index : row - 2 ≡ there.0 = omega arith in (
          number row - 2,
          omega (arith, moved_count, by.size),
          moved_number row s (omega arith) low ∙ ap (λ i. get_or states i s) index ∙ there.2,
        );
  }

  pub moved_power : IsPower u b
  moved_power = record {
    states = moved;
    reached = moved_reached;
    size = omega (arith, m.size, by.size, moved_count);
    entries =
        λ mode start.
        ap (node_at moved) (m.names.entries mode start)
        ∙ node_is (t.machine.entry mode start) (m.names.entries_within mode start) ∙ by.entries mode start;
    nexts =
        λ row unit low is_unit.
        let own = old_row row in
        let below = m.names.rows_below row low in
        ap (node_at moved) (next_at m.names row unit low is_unit)
        ∙ node_is (t.machine.next own unit) (m.names.nexts_within own unit below is_unit)
        ∙ by.nexts own unit below is_unit
        ∙ ap (λ n. next_node b n unit) (sym (node_is own below) ∙ ap (node_at moved) (m.names.named row low));
    labels =
        λ row low.
        let own = old_row row in
        let below = m.names.rows_below row low in
        label_at m.names row low ∙ by.labels own below
        ∙ ap node_label (sym (node_is own below) ∙ ap (node_at moved) (m.names.named row low));
  }

-- rows that are put in order
pub permuted_power : {b : Build} (l new : Layout) {matches : Matches} {numbers : List ℕ} → HasStates b l matches
    → IsPermuted numbers (table_of l) (table_of new)
    → ((row : ℕ) → row < row_count l → (table_of new).machine.label (slice_index numbers row) ≡ label_by l matches row)
    → IsPower (table_of new) b
permuted_power {b} l new {matches} {numbers} has p told =
    let meant : Table = record (table_of l) { machine = record (machine_of l) { label = label_by l matches } } in
    let moved : IsPermuted numbers meant (table_of new) = record {
      permutation = p.permutation;
      size = p.size;
      dead = p.dead;
      quit = p.quit;
      entries = p.entries;
      nexts = p.nexts;
    } in
    let power : IsPower meant b = record {
      states = has.states;
      reached = has.reached;
      size = has.size;
      entries = has.entries;
      nexts = has.nexts;
      labels = has.labels;
    } in
    moved_power (permuted_moved has.entries_within has.nexts_within moved told) power
