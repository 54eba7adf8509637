-- A forward search for the first end that it meets: nothing was cut before, so it tells the pattern of the least
-- start from which some pattern ends there.
use Rattle.rx_spec.proofs.Prelude.{common_steps, ◌≡◌, ℕ, suc, zero, ◌+◌, ◌-◌, ◌<◌, ◌≤◌, ⊎_elim, Bool, true, false, ◌==◌}
use Rattle.rx_spec.proofs.Prelude.{if◌then◌else◌, Option, Some, None, Ok, List, [], ◌∷◌, length, refl, ap, sym, ◌∙◌}
use Rattle.rx_spec.proofs.Prelude.{subst, arith, map-id, none-some, same_Some, slice_get, Contains, option_and_then}
use Rattle.rx_spec.proofs.Prelude.{list_any, range_with_len, Expression, IsLoopSafe, ends, Anchored, is_anchored}
use Rattle.rx_spec.proofs.Prelude.{reading, HalfMatch, MatchError, first_of, label_of, State, power, build_settings}
use Rattle.rx_spec.proofs.Prelude.{HalfAnswer, at_label, last_match}
use Rattle.rx_plan.specs.Plans.{plan_build}
use Rattle.std.specs.Option.{option_map}
use Rattle.rx_spec.specs.declared.Direction.{Direction}
use Rattle.rx_lemmas.proofs.HalfSearches.{Begun, half_begun, told_same, error_not_told}
use Rattle.rx_lemmas.proofs.Ranges.{first_in_range, range_first_at}
use Rattle.rx_lemmas.proofs.Reaches.{reaches_sound, reaches_lie}
use Rattle.rx_lemmas.proofs.ReadUnits.{All-got, unit_at, units_from, units_from-zero, units_from-suc}
use Rattle.rx_lemmas.proofs.Walking.{Dead, Quits, Steps, leads, state_walk, walk-nil, walk_dead, walk_quits}
use Rattle.rx_lemmas.proofs.Walking.{walk_steps}
use Rattle.rx_meaning.specs.Mirrored.{start_if, start_to_end, least_start}
use Rattle.rx_meaning.proofs.FirstSuccess.{first_of-alike, first_of-map}
use Rattle.rx_meaning.proofs.Scan.{Scan, read_in, StandsAt, step_at, step_stands, PlanQuery, scan_of}
use Rattle.rx_meaning.proofs.NfaStarts.{one_worth, all_worth, mode_worth, start_gives}
use Rattle.rx_meaning.proofs.Steps.{cuts_nothing}
use Rattle.rx_meaning.proofs.StartStates.{begin_state, begun_walk, begin_stands, begin_gives}
use Rattle.rx_meaning.proofs.OneEnd.{exactly, ends_exactly, any_end, tells, tells_here, tells_later}
use Rattle.rx_meaning.proofs.QuitBytes.{forward_ended}
use Rattle.rx_meaning.proofs.EndStarts.{always, half, Begins}

-- ---- the walk

module _ (c : Scan) where
  -- the state gives the pattern that was told for the place where it was told
  abbrev Told : State → ℕ → HalfMatch → Type 0
  Told s i h = (i ≤ h.offset) × (tells c s i h.offset ≡ Some h.pattern)

  told_by : (s : State) (i : ℕ) (h : HalfMatch) → StandsAt c s i → (later : Option HalfMatch → HalfAnswer)
      → (later None ≡ Ok (Some h) → Told (step_at c s i) (i + 1) h)
      → at_label (label_of (step_at c s i).label) Direction.Forward true (unit_at (read_in c) i) i
      (Ok (last_match (label_of (step_at c s i).label) i None))
      (later (last_match (label_of (step_at c s i).label) i None)) ≡ Ok (Some h)
      → Told s i h
  told_by s i h at later on e = by_label (step_at c s i).label refl e
    where
      by_label : (label : List ℕ) → (step_at c s i).label ≡ label
          → at_label (label_of label) Direction.Forward true (unit_at (read_in c) i) i
          (Ok (last_match (label_of label) i None)) (later (last_match (label_of label) i None)) ≡ Ok (Some h)
          → Told s i h
      by_label [] is e = grind (arith, common_steps, cuts_nothing, unit_at, read_in, tells_later)
      by_label (k ∷ ks) is e =
          let here : HalfMatch = record { pattern = k; offset = i } in
          let same : here ≡ h = same_Some here h (told_same (Some here) (Some h) e) in
          subst (Told s i) same (omega arith, sym (tells_here c s i at) ∙ ap (λ l. slice_get l 0) is)

  -- The first end that a walk meets.
  pub first_told : (n i : ℕ) (s : State) (h : HalfMatch) → StandsAt c s i
      → state_walk c.build Direction.Forward true s i None (units_from (read_in c) i n) ≡ Ok (Some h)
      → (i ≤ h.offset) × (tells c s i h.offset ≡ Some h.pattern)
  first_told zero i s h at w = grind (arith, common_steps, units_from-zero, walk-nil)
  first_told (suc n) i s h at w =
      let unit = unit_at (read_in c) i in
      let units = units_from (read_in c) (i + 1) n in
      let walked = ap (state_walk c.build Direction.Forward true s i None) (sym (units_from-suc (read_in c) i n)) ∙ w in
      elim (leads c.build s unit) as (λ l. Told s i h) [
        | Dead d ↦
            absurd (none-some h (told_same None (Some h)
            (sym (walk_dead c.build Direction.Forward true s i None (unit ∷ units) d) ∙ walked)))
        | Quits d q ↦
            absurd (error_not_told (MatchError.Quit unit i) (Some h)
            (sym (walk_quits c.build Direction.Forward true s unit i None units d q) ∙ walked))
        | Steps d q ↦
            let next = step_at c s i in
            told_by s i h at (λ kept. state_walk c.build Direction.Forward true next (i + 1) kept units)
            (first_told n (i + 1) next h (step_stands c s i))
            (sym (walk_steps c.build Direction.Forward true s unit i None units d q) ∙ walked)
      ]

-- ---- the start

-- pattern k matches from p to the end
record Reached (a : PlanQuery) (end p k : ℕ) : Type 0 where
  expression : Expression
  numbered : slice_get a.expressions k ≡ Some expression
  matches : Contains (ends (reading Direction.Forward a.plan.line_terminator a.query.haystack) expression p) end

reached_order : (a : PlanQuery) (end p k : ℕ) → p ≤ length a.query.haystack → Reached a end p k → p ≤ end
reached_order a end p k within x =
    let r = reading Direction.Forward a.plan.line_terminator a.query.haystack in
    let safe = All-got IsLoopSafe a.expressions k x.expression a.safe x.numbered in
    let lies = reaches_lie r x.expression p end within (reaches_sound r x.expression p end safe x.matches) in
    omega arith

module _ (a : PlanQuery) (end : ℕ) where
  abbrev forward_ends : ℕ → Expression → List ℕ
  forward_ends p e = ends (reading Direction.Forward a.plan.line_terminator a.query.haystack) e p

  -- what one pattern, and all of them, give at a place for the end
  abbrev one : ℕ → ℕ → Option ℕ
  one p k = one_worth a Direction.Forward (exactly end) p k

  abbrev every : ℕ → Option ℕ
  every p = all_worth a Direction.Forward (exactly end) p

  one_is : (p k : ℕ) → one p k
      ≡ option_and_then (λ e. if list_any (λ j. j == end) (forward_ends p e) then Some k else None)
      (slice_get a.expressions k)
  one_is p k =
      ap (λ es. option_and_then (λ e. first_of (λ j. exactly end k j) (forward_ends p e)) (slice_get es k))
      (map-id a.expressions)
      ∙ of_pattern (slice_get a.expressions k)
    where
      of_pattern : (e : Option Expression)
          → option_and_then (λ e. first_of (λ j. exactly end k j) (forward_ends p e)) e
          ≡ option_and_then (λ e. if list_any (λ j. j == end) (forward_ends p e) then Some k else None) e
      of_pattern None = refl
      of_pattern (Some e) = ends_exactly end k (forward_ends p e)

  one_reached : (p k v : ℕ) → one p k ≡ Some v → Reached a end p v
  one_reached p k v e = grind (arith, common_steps, one_is, any_end)

  every_reached : (p v : ℕ) → every p ≡ Some v → Reached a end p v
  every_reached p v e =
      let first = first_in_range (one p) 0 (length a.expressions) v e in one_reached p (0 + first.place) v first.gives

  -- with the start, it is the start of a match that ends there
  abbrev starts : ℕ → Option HalfMatch
  starts p =
      first_of (start_to_end a.expressions a.plan.line_terminator (record a.query { end = end }) p)
      (range_with_len 0 (length a.expressions))

  abbrev half_at : ℕ → ℕ → HalfMatch
  half_at p k = record { pattern = k; offset = p }

  every_starts : (p : ℕ) → option_map (half_at p) (every p) ≡ starts p
  every_starts p =
      let patterns = range_with_len 0 (length a.expressions) in
      first_of-map (half_at p) (one p) patterns
      ∙ first_of-alike (λ k. option_map (half_at p) (one p k))
      (start_to_end a.expressions a.plan.line_terminator (record a.query { end = end }) p) patterns
      (λ k. ap (option_map (half_at p)) (one_is p k) ∙ of_pattern k (slice_get a.expressions k))
    where
      of_test : (k : ℕ) (b : Bool)
          → option_map (half_at p) (if b then Some k else None) ≡ (if b then Some (half_at p k) else None)
      of_test k true = refl
      of_test k false = refl

      of_pattern : (k : ℕ) (e : Option Expression)
          → option_map (half_at p)
          (option_and_then (λ e. if list_any (λ j. j == end) (forward_ends p e) then Some k else None) e)
          ≡ option_and_then (start_if a.plan.line_terminator a.query.haystack end p k) e
      of_pattern k None = refl
      of_pattern k (Some e) = of_test k (list_any (λ j. j == end) (forward_ends p e))

  module _ (order : a.query.start ≤ a.query.end) (high : end ≤ a.query.end) (k : ℕ) where
    begins_at : (p : ℕ) → a.query.start ≤ p → p ≤ length a.query.haystack → Reached a end p k
        → (is_anchored a.query.mode ≡ true → p ≡ a.query.start) → (always a ≡ true → p ≡ a.query.start)
        → (a.query.mode ≡ Anchored.No → always a ≡ false
        → least_start a.expressions a.plan.line_terminator (record a.query { end = end }) ≡ Some (half_at p k))
        → Begins a k end
    begins_at p low within x anchored edge least = record {
      start = p;
      is_match = record {
        low = low;
        order = reached_order a end p k within x;
        high = high;
        expression = x.expression;
        numbered = x.numbered;
        matches = x.matches;
      };
      anchored = anchored;
      edge = edge;
      least = least;
    }

    at_start : Reached a end a.query.start k → (a.query.mode ≡ Anchored.No → always a ≡ false → ⊥) → Begins a k end
    at_start x other =
        let inside = a.inside in
        begins_at a.query.start (omega arith) (omega arith) x (λ h. refl) (λ h. refl) (λ m f. absurd (other m f))

    -- the least start of all
    further : a.query.mode ≡ Anchored.No → always a ≡ false
        → first_of every (range_with_len a.query.start (suc (length a.query.haystack - a.query.start))) ≡ Some k
        → Begins a k end
    further mode edge e =
        let inside = a.inside in
        let first = first_in_range every a.query.start (suc (length a.query.haystack - a.query.start)) k e in
        let near = first.within in
        let p = a.query.start + first.place in
        let within : p ≤ length a.query.haystack = omega arith in
        let x = every_reached p k first.gives in
        let before = reached_order a end p k within x in
        let not_anchored : is_anchored a.query.mode ≡ true → p ≡ a.query.start
        = λ h. absurd (let f : is_anchored a.query.mode ≡ false = ap is_anchored mode in cc) in
        begins_at p (omega arith) within x not_anchored (λ h. absurd (cc))
        (λ m f. range_first_at starts first.place a.query.start (end + 1 - a.query.start) (half_at p k) (omega arith)
        (sym (every_starts p) ∙ ap (option_map (half_at p)) first.gives)
        (λ i l. sym (every_starts (a.query.start + i))
        ∙ ap (option_map (half_at (a.query.start + i))) (first.none_before i l)))

    begins_in : (mode : Anchored) → a.query.mode ≡ mode
        → mode_worth a Direction.Forward (exactly end) mode a.query.start ≡ Some k → Begins a k end
    begins_in Anchored.No is e = grind (arith, common_steps, always, at_start, every_reached, further)
    begins_in Anchored.Yes is e = at_start (every_reached a.query.start k e) (λ m f. absurd (cc))
    begins_in (Anchored.Pattern c) is e = at_start (one_reached a.query.start c k e) (λ m f. absurd (cc))

-- Where the match begins whose end was met first.
pub earliest_begins : (a : PlanQuery) (end : HalfMatch) → a.query.earliest ≡ true
    → half a Direction.Forward ≡ Ok (Some end) → Begins a end.pattern end.offset
earliest_begins a end first e =
    let b = plan_build a.plan Direction.Forward a.expressions in
    let q = a.query in
    let c = scan_of a Direction.Forward in
    ⊎_elim (λ (d : (q.end < q.start) × (Some end ≡ None)). absurd (none-some end (sym d.1)))
    (λ (g : Begun (power b) (build_settings b) Direction.Forward q (Some end)).
    let order = g.order in
    let n = suc (q.end - q.start) in
    let s = begin_state a Direction.Forward in
    let worth = exactly end.offset in
    let units = units_from (read_in c) q.start n in
    let walked = ap (λ v. state_walk b Direction.Forward v s q.start None units) (sym first)
    ∙ begun_walk a Direction.Forward (Some end) g in
    let told = first_told c n q.start s end (begin_stands a Direction.Forward order) walked in
    let ended = forward_ended a end e in
    begins_in a end.offset order ended.high end.pattern q.mode refl
    (sym (begin_gives a Direction.Forward worth q.start
    ∙ start_gives a Direction.Forward worth q.mode q.start (omega arith)) ∙ told.1))
    (half_begun (power b) (build_settings b) Direction.Forward q (Some end) e)
