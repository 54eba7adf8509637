-- A table that has a row for each state that was met, all of which are stepped, has the states that are reached.
use Rattle.rx_spec.proofs.Prelude.{common_steps, ◌≡◌, ℕ, zero, suc, ◌+◌, ◌*◌, ◌/◌, ◌<◌, ◌≤◌, Bool, true, false, Option}
use Rattle.rx_spec.proofs.Prelude.{Some, None, List, [], ◌∷◌, length, map, get_or, slice_index, refl, ap, sym, ◌∙◌}
use Rattle.rx_spec.proofs.Prelude.{subst, arith, ⊎_elim, cases_Bool, cases_lt, lt-ltb, ne_eqb, when_false, get_or-map}
use Rattle.rx_spec.proofs.Prelude.{get_or_default, length-map, sum_by-cons, All-get_or, pow_pos, get_or_from_slice_get}
use Rattle.rx_spec.proofs.Prelude.{slice_get-get_or, slice_get_past, slice_get_within, get, concat, nat_cmp, All}
use Rattle.rx_spec.proofs.Prelude.{Contains, IfSome, Vec, if◌then◌else◌, slice_get, sum_by, Global, Build, Node, Quit}
use Rattle.rx_spec.proofs.Prelude.{Running, dead, AreReached, IsReached, built_entry, is_dead, next_node, node_label}
use Rattle.rx_spec.proofs.Prelude.{max_id, Label, node_at, Anchored, label_total, State, dead_state}
use Rattle.rx_determinize.proofs.Prelude.{keying, AreLabels, AreMatches, HasEntries, HasStates, IsEntering, IsLabelAt}
use Rattle.rx_determinize.proofs.Prelude.{IsRouted, IsRowId, IsRowOf, Keying, Layout, Matches, Met, NamesPatterns}
use Rattle.rx_determinize.proofs.Prelude.{Stepping, Work, entry_in, label_by, label_of, label_of_patterns, machine_of}
use Rattle.rx_determinize.proofs.Prelude.{mode_place, nodes, pattern_lists, patterns_told, row_count, start_entries}
use Rattle.rx_determinize.proofs.Prelude.{states_of, stride, table_of}
use Rattle.rx_spec.specs.Machines.{label_of as label_from}
use Rattle.rx_spec.specs.declared.Start.{Start}
use Rattle.rx_determinize.proofs.LabelLaws.{reached_named}
use Rattle.rx_determinize.proofs.ModeLaws.{entries_twelve}
use Rattle.rx_determinize.proofs.NodeLaws.{entry_goes_on, entry_plain, entry_whole, eoi_goes_on, next_whole}
use Rattle.rx_determinize.proofs.NodeLaws.{node_of_row, quit_of_row}
use Rattle.rx_determinize.proofs.RowIds.{row_id, row_of_id}
use Rattle.rx_determinize.proofs.StartLaws.{number_low, place_of, start_of_place}
use Rattle.rx_determinize.proofs.WorkListLaws.{ends}

-- Each state that was met is stepped. A table has start entries for the patterns of the NFA, or for none.
pub record IsBuilt (w : Work) (l : Layout) : Type 0 where
  pub entering : IsEntering w l (length l.starts) (length w.met.keys)
  pub named : NamesPatterns (length w.stepping.nfa.start_patterns) w.stepping.nfa.rows
  pub pattern_len : l.pattern_len ≡ length w.stepping.nfa.start_patterns
  pub entries : HasEntries (length w.stepping.nfa.start_patterns) l

module _ {w : Work} {l : Layout} (built : IsBuilt w l) where
  abbrev s : Stepping
  s = w.stepping

  abbrev met : Met
  met = w.met

  abbrev k : Keying
  k = keying s l

  abbrev b : Build
  b = k.build

  abbrev states : List State
  states = states_of k met

  count : row_count l ≡ length met.keys + 2
  count = built.entering.serves.working.count

  pub states_count : length states ≡ length met.keys
  states_count = length-map met.keys s.state_of

  pub rows_count : row_count l ≡ length states + 2
  rows_count = omega (arith, states_count)

  -- ---- starts

  dead_entry : (j : ℕ) (start : Start) → length l.starts ≤ 12 + 6 * j
      → entry_in l (Anchored.Pattern j) start ≡ 0
  dead_entry j start past = grind (arith, common_steps)

  -- a pattern past the last starts at dead
  past_last : (n j : ℕ) (start : Start) → l.pattern_starts ≡ Some n → n ≤ j → entry_in l (Anchored.Pattern j) start ≡ 0
  past_last n j start e h = grind (arith, common_steps)

  -- a mode without starts
  no_start : (j : ℕ) (start : Start) → length l.starts ≤ 12 + 6 * j → built_entry b (Anchored.Pattern j) start ≡ dead
  no_start j start past = grind (arith, common_steps, slice_get_past)

  twelve : 12 ≤ length l.starts
  twelve = entries_twelve built.entries

  in_place : (mode : Anchored) (start : Start) → place_of mode start < length l.starts
      → IsRowOf states (built_entry b mode start) (entry_in l mode start)
  in_place mode start low = built.entering.written.starts mode start low

  starts : (mode : Anchored) (start : Start) → IsRowOf states (built_entry b mode start) (entry_in l mode start)
  starts Anchored.No start = in_place Anchored.No start (omega (arith, twelve, number_low start))
  starts Anchored.Yes start = in_place Anchored.Yes start (omega (arith, twelve, number_low start))
  starts (Anchored.Pattern j) start =
      ⊎_elim
      (λ (h : 12 + 6 * j < length l.starts).
      in_place (Anchored.Pattern j) start (let six = by_six l.pattern_starts refl in omega (
        arith,
        h,
        number_low
            start,
        six.1,
      )))
      (λ (h : length l.starts ≤ 12 + 6 * j).
      subst (λ (node : Node). IsRowOf states node (entry_in l (Anchored.Pattern j) start))
      (sym (no_start j start h)) (dead_entry j start h))
      (cases_lt (12 + 6 * j) (length l.starts))
    where
      -- entries come by six
      by_six : (p : Option ℕ) → l.pattern_starts ≡ p → (m : ℕ) × (length l.starts ≡ 12 + 6 * m)
      by_six p e = grind (arith, common_steps, built.entries.count, start_entries)

  -- ---- rows

  pub reached : AreReached b states
  reached = ends built.entering.written.list starts (omega arith) built.entering.serves.working.distinct

  low_row : (node : Node) (row : ℕ) → IsRowOf states node row → row < row_count l
  low_row node row is_row = ⊎_elim dies lives (cases_Bool (is_dead node))
    where
      dies : is_dead node ≡ true → row < row_count l
      dies e = grind (arith, common_steps)

      lives : is_dead node ≡ false → row < row_count l
      lives e =
          let there = when_false (row ≡ 0) (slice_get (nodes states) row ≡ Some node) e is_row in
          omega (
            arith,
            slice_get_within (nodes states) row node there,
            length-map states (λ (t : State). Running t),
            rows_count,
          )

  -- the state of a row behind quit
  key_at : (i : ℕ) → suc (suc i) < row_count l → slice_get met.keys i ≡ Some (get_or met.keys i [])
  key_at i low = slice_get-get_or met.keys i [] (omega arith)

  node_is : (i : ℕ) (key : List ℕ) → slice_get met.keys i ≡ Some key
      → node_at states (suc (suc i)) ≡ Running (s.state_of key)
  node_is i key there =
      let low = slice_get_within met.keys i key there in
      let here : get_or met.keys i [] ≡ key = get_or_from_slice_get met.keys i key [] there in
      get_or-map (λ (t : State). Running t) states i dead_state dead (omega (arith, states_count))
      ∙ ap Running (get_or-map s.state_of met.keys i [] dead_state low ∙ ap s.state_of here)

  same_row : (i : ℕ) → i + 2 ≡ suc (suc i)
  same_row i = omega arith

  next_row : (row unit : ℕ) → row < row_count l → unit < 257
      → IsRowOf states (next_node b (node_at states row) unit) ((machine_of l).next row unit)
  next_row zero unit low is_unit = built.entering.written.dead_stays unit is_unit
  next_row (suc zero) unit low is_unit = built.entering.written.quit_ends unit is_unit
  next_row (suc (suc i)) unit low is_unit =
      let key = get_or met.keys i [] in
      let there = key_at i low in
      subst (λ (node : Node). IsRowOf states (next_node b node unit) ((machine_of l).next (suc (suc i)) unit))
      (sym (node_is i key there))
      (subst (λ row. IsRowOf states (next_node b (Running (s.state_of key)) unit) ((machine_of l).next row unit))
      (same_row i)
      (built.entering.written.list.steps i key there (slice_get_within met.keys i key there) unit is_unit))

  -- ---- what rows tell

  module _ {matches : Matches} (labels : AreLabels met.keys l matches) where
    named_by : (key : List ℕ) (i : ℕ) → slice_get met.keys i ≡ Some key → label_of key ≡ (s.state_of key).label
    named_by key i there =
        let low = slice_get_within met.keys i key there in
        let here = get_or_from_slice_get met.keys i key [] there in
        built.entering.serves.spells.label key
        (subst (λ (j : List ℕ). s.is_key j ≡ true) here
        (All-get_or (λ j. s.is_key j ≡ true) met.keys i [] low built.entering.serves.working.are_keys))

    some_width : 0 < stride l
    some_width = pow_pos l.stride2

    high_id : (id : ℕ) (patterns : List ℕ) → IsLabelAt met.keys l id patterns → stride l < id
    high_id id patterns is = grind (arith, common_steps)

    -- patterns that are told are some
    told_label : (o : Option (Vec ℕ Global)) → IfSome o (λ v. 0 < length v.items)
        → label_of_patterns o ≡ label_from (patterns_told o)
    told_label None some = refl
    told_label (Some v) some = at v.items some
      where
        at : (ks : List ℕ) → 0 < length ks → Label.Matches ks ≡ label_from ks
        at ks h = grind (arith, common_steps)

    some_told : (id : ℕ) (o : Option (Vec ℕ Global)) → get nat_cmp matches id ≡ o → IfSome o (λ v. 0 < length v.items)
    some_told id None e = tt
    some_told id (Some v) e = (labels.only id v e).some

    no_label : (id : ℕ) → id ≤ stride l → get nat_cmp matches id ≡ None
    no_label id low = at (get nat_cmp matches id) refl
      where
        at : (o : Option (Vec ℕ Global)) → get nat_cmp matches id ≡ o → get nat_cmp matches id ≡ None
        at None e = e
        at (Some v) e = absurd (omega (arith, high_id id v.items (labels.only id v e)))

    told : (row : ℕ) → row < row_count l → label_by l matches row ≡ node_label (node_at states row)
    told zero low = ap label_of_patterns (no_label (0 * stride l) (omega arith))
    told (suc zero) low = refl
    told (suc (suc i)) low =
        let key = get_or met.keys i [] in
        let there = key_at i low in
        let id = suc (suc i) * stride l in
        let other : suc (suc i) ≡ 1 → ⊥ = λ e. absurd (omega arith) in
        ap (λ (c : Bool). if c then Label.Quits else label_of_patterns (get nat_cmp matches id))
        (ne_eqb (suc (suc i)) 1 other)
        ∙ told_label (get nat_cmp matches id) (some_told id (get nat_cmp matches id) refl)
        ∙ ap label_from
        (ap (λ r. patterns_told (get nat_cmp matches (r * stride l))) (sym (same_row i)) ∙ labels.told i key there
        ∙ named_by key i there)
        ∙ ap node_label (sym (node_is i key there))

    -- a start is no match row
    no_start_match : (id : ℕ) (patterns : List ℕ) → IsLabelAt met.keys l id patterns → Contains l.starts id → ⊥
    no_start_match id patterns is own =
        let place = own.0 in
        let mode = (start_of_place place).0 in
        let start = (start_of_place place).1 in
        let at : place_of mode start ≡ place = (start_of_place place).2 in
        let low = own.1 in
        let entry : slice_index l.starts (place_of mode start) ≡ id =
        ap (slice_index l.starts) at ∙ get_or_default l.starts place 0 id low ∙ own.2 in
        let mode_low : mode_place mode < length l.starts = omega arith in
        let row : entry_in l mode start ≡ is.place + 2 =
        ap (λ (c : Bool). (if c then slice_index l.starts (place_of mode start) else 0) / stride l)
        (lt-ltb (mode_place mode) (length l.starts) mode_low)
        ∙ ap (λ n. n / stride l) (entry ∙ is.id_is) ∙ row_of_id l (is.place + 2) in
        let node : node_at states (suc (suc is.place)) ≡ built_entry b mode start =
        ap (node_at states) (sym (same_row is.place)) ∙ ap (node_at states) (sym row)
        ∙ node_of_row states (built_entry b mode start) (entry_in l mode start) (entry_whole b mode start)
        (starts mode start) in
        let plain : node_label (Running (s.state_of is.key)) ≡ Label.Plain =
        ap node_label (sym (node_is is.place is.key is.there) ∙ node) ∙ entry_plain b mode start in
        let none : (s.state_of is.key).label ≡ [] = unlabelled (s.state_of is.key).label plain in
        let empty : patterns ≡ [] = is.label ∙ named_by is.key is.place is.there ∙ none in
        absurd (omega (arith, ap length empty))
      where
        unlabelled : (ks : List ℕ) → label_from ks ≡ Label.Plain → ks ≡ []
        unlabelled ks e = grind (arith, common_steps)

    are_matches : AreMatches l matches
    are_matches = record {
      rows = λ id v e.
          let is = labels.only id v e in
          let low = slice_get_within met.keys is.place is.key is.there in (
            subst (IsRowId l) (sym is.id_is)
                (row_id l (is.place + 2) built.entering.serves.rows (omega arith)),
            high_id id v.items is,
            no_start_match id v.items is,
          );
      lists = λ id v e.
          let is = labels.only id v e in
          let low = slice_get_within met.keys is.place is.key is.there in
          let state = s.state_of is.key in
          let own : IsReached b state =
          subst (λ (j : List ℕ). IsReached b (s.state_of j))
          (get_or_from_slice_get met.keys is.place is.key [] is.there)
          (All-get_or (λ j. IsReached b (s.state_of j)) met.keys is.place [] low
          built.entering.serves.working.reached) in
          let below : All (λ j. j < length s.nfa.start_patterns) state.label =
          reached_named (length s.nfa.start_patterns) b built.named state own in (
            is.some,
            subst (λ n. All (λ j. j < n) v.items) (sym built.pattern_len)
                (subst (All (λ j. j < length s.nfa.start_patterns))
                (sym (is.label ∙ named_by is.key is.place is.there)) below),
          );
    }

    routed : IsRouted (table_of l)
    routed = record {
      past_last = past_last;
      dead_stays = built.entering.written.dead_stays;
      quit_ends = built.entering.written.quit_ends;
      eoi_goes_on = λ row low one. eoi row low one;
      starts = λ mode start one.
          entry_goes_on b mode start
          (quit_of_row states (built_entry b mode start) (entry_in l mode start) one (starts mode start));
    }
      where
        eoi : (row : ℕ) → row < row_count l → (machine_of l).next row 256 ≡ 1 → ⊥
        eoi zero low one = absurd (omega (arith, built.entering.written.dead_stays 256 (omega arith)))
        eoi (suc zero) low one = absurd (omega (arith, one, built.entering.written.quit_ends 256 (omega arith)))
        eoi (suc (suc i)) low one =
            let key = get_or met.keys i [] in
            let node : next_node b (node_at states (suc (suc i))) 256 ≡ Quit =
            quit_of_row states (next_node b (node_at states (suc (suc i))) 256) ((machine_of l).next (suc (suc i)) 256)
            one (next_row (suc (suc i)) 256 low (omega arith)) in
            eoi_goes_on b (s.state_of key)
            (ap (λ (n : Node). next_node b n 256) (sym (node_is i key (key_at i low))) ∙ node)

    -- the labels are no longer together than those of the states
    few : length (concat (pattern_lists matches)) ≤ max_id
    few =
        omega (arith, labels.count, same_total met.keys (λ i key there. named_by key i there))
      where
        same_total : (keys : List (List ℕ)) → ((i : ℕ) (key : List ℕ) → slice_get keys i ≡ Some key
            → label_of key ≡ (s.state_of key).label)
            → sum_by (λ key. length (label_of key)) keys ≡ label_total (map s.state_of keys)
        same_total [] own = refl
        same_total (key ∷ keys) own =
            omega (
              arith,
              sum_by-cons (λ key. length (label_of key)) key keys,
              sum_by-cons (λ (t : State). length t.label) (s.state_of key) (map s.state_of keys),
              ap length (own 0 key refl),
              same_total keys (λ i other there. own (suc i) other there),
            )

    pub has_states : HasStates b l matches
    has_states = record {
      states = states;
      reached = reached;
      size = rows_count;
      entries = λ mode start.
          node_of_row states (built_entry b mode start) (entry_in l mode start) (entry_whole b mode start)
          (starts mode start);
      nexts = λ row unit low is_unit.
          node_of_row states (next_node b (node_at states row) unit) ((machine_of l).next row unit)
          (next_whole b (node_at states row) unit) (next_row row unit low is_unit);
      entries_within = λ mode start. low_row (built_entry b mode start) (entry_in l mode start) (starts mode start);
      nexts_within = λ row unit low is_unit.
          low_row (next_node b (node_at states row) unit) ((machine_of l).next row unit) (next_row row unit low
          is_unit);
      labels = told;
      are_matches = are_matches;
      routed = routed;
      few_patterns = few;
    }
