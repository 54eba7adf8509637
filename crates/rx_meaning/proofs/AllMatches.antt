-- What is told at a place over a table of the kind All: exactly the matches of all patterns from there.
use Rattle.std.proofs.lemmas.Grind.{common_steps}
use Rattle.rx_spec.proofs.Prelude.{◌≡◌, ℕ, zero, suc, ◌+◌, ◌-◌, ◌<◌, ◌≤◌, Option, Some, None, List, length, refl, ap}
use Rattle.rx_spec.proofs.Prelude.{ap₂, sym, ◌∙◌, subst, arith, ◌⊎◌, inl, map-id, slice_get_within, slice_get, Contains}
use Rattle.rx_spec.proofs.Prelude.{All, option_and_then, range_with_len, AreBytes, Expression, IsLoopSafe, ends}
use Rattle.rx_spec.proofs.Prelude.{Anchored, Query, reading, HalfMatch, MatchError, start_of, first_of, Build, Node}
use Rattle.rx_spec.proofs.Prelude.{nfa_start, start_node, power, build_settings, beside, match_error, Item, Ending}
use Rattle.rx_spec.proofs.Prelude.{OverlappingMatches, overlapping, overlapping_walk}
use Rattle.rx_plan.specs.Plans.{Plan}
use Rattle.std.proofs.lemmas.Option.{option_and_then_some}
use Rattle.rx_spec.specs.declared.Direction.{Direction}
use Rattle.rx_spec.specs.declared.Start.{Start}
use Rattle.rx_lemmas.proofs.Firsts.{Contains-here, Contains-there}
use Rattle.rx_lemmas.proofs.HalfSearches.{Begins, Done, Refused, Started, begins, going, started, build_start}
use Rattle.rx_lemmas.proofs.Overlapping.{overlapping_walks, overlapping_refused}
use Rattle.rx_lemmas.proofs.OverlappingBounds.{overlapping_in_span}
use Rattle.rx_lemmas.proofs.Reaches.{reaches_sound, reaches_lie}
use Rattle.rx_lemmas.proofs.ReadUnits.{All-got, units_from-alike, units_read}
use Rattle.rx_meaning.proofs.NfaStarts.{one_worth, all_worth, start_gives}
use Rattle.rx_meaning.proofs.Scan.{Scan, read_in, StandsAt, PlanQuery, scan_of}
use Rattle.rx_meaning.proofs.StartStates.{begin_state, first_state, begin_stands, begin_gives}
use Rattle.rx_meaning.specs.AllBuilds.{all_build}
use Rattle.rx_meaning.specs.AllMatches.{AllAreTold, MatchesTo, query_at}
use Rattle.rx_meaning.proofs.AllEnds.{OneValue, first_has, has_first, first_one, only, only_one, only_here, only_is, told}
use Rattle.rx_meaning.proofs.AllEnds.{tells, gives}
use Rattle.rx_meaning.proofs.ServedPlaces.{told_same}

range_has : (n base j : ℕ) → j < n → Contains (range_with_len base n) (base + j)
range_has zero base j h = absurd (omega arith)
range_has (suc n) base zero h =
    let here : base ≡ base + 0 = omega arith in
    subst (Contains (range_with_len base (suc n))) here (Contains-here base (range_with_len (base + 1) n))
range_has (suc n) base (suc j) h =
    let place : base + 1 + j ≡ base + suc j = omega arith in
    subst (Contains (range_with_len base (suc n))) place
    (Contains-there base (range_with_len (base + 1) n) (base + 1 + j) (range_has n (base + 1) j (omega arith)))

-- ---- at a place of a text

module _ (plan : Plan) (es : List Expression) (safe : All IsLoopSafe es) (text : List ℕ) (bytes : AreBytes text)
    (p : ℕ) (more : p < length text) where
  abbrev t : ℕ
  t = plan.line_terminator

  abbrev q : Query
  q = query_at text p

  abbrev b : Build
  b = all_build plan es

  abbrev pub Matches : ℕ → ℕ → Type 0
  Matches k end = MatchesTo es plan.line_terminator text p k end

  abbrev pub asked : PlanQuery
  asked = record {
    plan = plan;
    expressions = es;
    safe = safe;
    query = query_at text p;
    bytes = bytes;
    inside = omega arith;
  }

  abbrev pub c : Scan
  c = record {
    build = all_build plan es;
    shallow = (scan_of asked Direction.Forward).shallow;
    units = text;
    bytes = bytes;
  }

  -- where the patterns match to
  matched_within : (k end : ℕ) → MatchesTo es plan.line_terminator text p k end → (p ≤ end) × (end ≤ length text)
  matched_within k end m =
      let r = reading Direction.Forward t text in
      let each = All-got IsLoopSafe es k m.expression safe m.numbered in
      let lies = reaches_lie r m.expression p end (omega arith)
      (reaches_sound r m.expression p end each m.matches) in
      (omega arith, lies.1)

  -- ---- the start

  module _ (j place : ℕ) where
    abbrev one : ℕ → Option ℕ
    one k = one_worth asked Direction.Forward (only j place) p k

    abbrev forward_ends : Expression → List ℕ
    forward_ends e = ends (reading Direction.Forward plan.line_terminator text) e p

    abbrev of_pattern : ℕ → Option Expression → Option ℕ
    of_pattern k e = option_and_then (λ e. first_of (λ i. only j place k i) (forward_ends e)) e

    one_is : (k : ℕ) → one k ≡ of_pattern k (slice_get es k)
    one_is k = ap (λ (xs : List Expression). of_pattern k (slice_get xs k)) (map-id es)

    ends_one : (k : ℕ) (e : Option Expression) → (of_pattern k e ≡ None) ⊎ (of_pattern k e ≡ Some j)
    ends_one k None = inl refl
    ends_one k (Some e) = first_one (λ i. only j place k i) j (λ i. only_one j place i k) (forward_ends e)

    one_one : OneValue one j
    one_one k = grind (arith, common_steps, slice_get, one_is, ends_one)

    pub worth_matches : all_worth asked Direction.Forward (only j place) p ≡ Some j → Matches j place
    worth_matches e =
        let k = has_first one j (range_with_len 0 (length es)) e in
        option_and_then_some (λ e. first_of (λ i. only j place k.0 i) (forward_ends e)) (slice_get es k.0) j
        (sym (one_is k.0) ∙ k.2)
        (λ x got some. grind (arith, common_steps, has_first, only, only_is, slice_get))

    pub matches_worth : Matches j place → all_worth asked Direction.Forward (only j place) p ≡ Some j
    matches_worth m =
        let some : one j ≡ Some j
        = one_is j ∙ ap (of_pattern j) m.numbered
        ∙ first_has (λ i. only j place j i) j (λ i. only_one j place i j) (forward_ends m.expression) place m.matches
        (only_here j place) in
        first_has one j one_one (range_with_len 0 (length es)) j there some
      where
        within : j < length es
        within = slice_get_within es j m.expression m.numbered

        there : Contains (range_with_len 0 (length es)) j
        there =
            let place : 0 + j ≡ j = omega arith in
            subst (Contains (range_with_len 0 (length es))) place (range_has (length es) 0 j within)

  -- ---- the search of the build

  abbrev pub found : OverlappingMatches
  found = overlapping (power (all_build plan es)) (build_settings (all_build plan es)) Direction.Forward
      (query_at text p)

  runs_first : (row : Option ℕ) (start : Start)
      → start_node (all_build plan es).nfa row start ≡ Node.Running (first_state (all_build plan es).nfa row start)
  runs_first None start = refl
  runs_first (Some row) start = refl

  -- one that ends is a walk from the state where it begins
  begun : found.ending ≡ Ending.Ended → found ≡ told c refl 0 0 (begin_state asked Direction.Forward) p
      (suc (length text - p))
  begun ended = by_start (begins (build_settings b) Direction.Forward q)
    where
      refused_not : (error : MatchError) → Ending.Refused error ≡ Ending.Ended → ⊥
      refused_not error e = cc

      by_start : Begins (build_settings b) Direction.Forward q
          → found ≡ told c refl 0 0 (begin_state asked Direction.Forward) p (suc (length text - p))
      by_start (Done past) = absurd (omega arith)
      by_start (Refused order error is) =
          grind (arith, common_steps, refused_not, match_error, overlapping_refused, power)
      by_start (Started order is) =
          let row = nfa_start b.nfa q.mode in
          let context = start_of b.nfa.line_terminator (beside Direction.Forward q) in
          overlapping_walks (power b) (build_settings b) Direction.Forward q (going q order) is
          ∙ ap₂ (λ (node : Node) (us : List ℕ). overlapping_walk (power b) Direction.Forward node p us)
          (build_start b (beside Direction.Forward q) q.mode
          (started (build_settings b) (beside Direction.Forward q) q.mode is)
          ∙ runs_first row context)
          (units_read Direction.Forward t q order (omega arith)
          ∙ sym (units_from-alike (read_in c) (reading Direction.Forward t text) p (suc (length text - p)) refl))

  stands : StandsAt c (begin_state asked Direction.Forward) p
  stands = let at = begin_stands asked Direction.Forward (omega arith) in record
      { roots = at.roots; is = at.is }

  start_is : (j place : ℕ) → gives c refl j place (begin_state asked Direction.Forward) p
      ≡ all_worth asked Direction.Forward (only j place) p
  start_is j place =
      begin_gives asked Direction.Forward (only j place) p
      ∙ start_gives asked Direction.Forward (only j place) Anchored.Yes p (omega arith)

  -- What is told is exactly where the patterns match to.
  pub told_matches : found.ending ≡ Ending.Ended → (m : HalfMatch) → Contains found.items (Item.Reported m)
      → m.offset ≤ length text → p ≤ m.offset → MatchesTo es plan.line_terminator text p m.pattern m.offset
  told_matches ended m has high low =
      let whole = begun ended in
      let is = tells c refl m.pattern m.offset (suc (length text - p)) p (begin_state asked Direction.Forward) stands
      low
      (omega arith) (sym (ap (λ (x : OverlappingMatches). x.ending) whole) ∙ ended) in
      worth_matches m.pattern m.offset
      (sym (start_is m.pattern m.offset)
      ∙ is.given_told (subst (λ (x : OverlappingMatches). Contains x.items (Item.Reported m)) whole has))

  pub matches_told : found.ending ≡ Ending.Ended → (k end : ℕ) → MatchesTo es plan.line_terminator text p k end
      → Contains found.items (Item.Reported (record { pattern = k; offset = end }))
  matches_told ended k end m =
      let whole = begun ended in
      let within = matched_within k end m in
      let is = tells c refl k end (suc (length text - p)) p (begin_state asked Direction.Forward) stands within.0
      (omega arith) (sym (ap (λ (x : OverlappingMatches). x.ending) whole) ∙ ended) in
      subst (λ (x : OverlappingMatches). Contains x.items (Item.Reported (record { pattern = k; offset = end })))
      (sym whole)
      (is.told_given (start_is k end ∙ matches_worth k end m))

-- ---- over a table that serves the build

pub all_are_told : AllAreTold
all_are_told t plan es text p is ended k q =
    let same = told_same is in
    let b = all_build plan es in
    let m : HalfMatch = record { pattern = k; offset = q } in
    let over : (found plan es is.safe text is.bytes p is.more).ending ≡ Ending.Ended = grind (arith, common_steps) in (
      λ has.
          let there = subst (λ (x : OverlappingMatches). Contains x.items (Item.Reported m)) same has in
          let span = overlapping_in_span (power b) (build_settings b) Direction.Forward (query_at text p) m there in
          told_matches plan es is.safe text is.bytes p is.more over m there span.1 span.0,
      λ matches.
          subst (λ (x : OverlappingMatches). Contains x.items (Item.Reported m)) (sym same)
          (matches_told plan es is.safe text is.bytes p is.more over k q matches),
    )
