-- The state where a search of a plan's build begins.
use Rattle.rx_spec.proofs.Prelude.{common_steps, ◌≡◌, ℕ, suc, ◌+◌, ◌-◌, ◌<◌, ◌≤◌, ◌⊎◌, inl, inr, ⊎_elim, false, Option}
use Rattle.rx_spec.proofs.Prelude.{Some, None, Ok, [], ◌∷◌, length, refl, ap, sym, ◌∙◌, arith, option_and_then, Query}
use Rattle.rx_spec.proofs.Prelude.{HalfMatch, reading, in_order, Nfa, facts_of, start_of, State, dead_state}
use Rattle.rx_spec.proofs.Prelude.{start_state, state_at, fresh, Build, nfa_start, power, build_settings}
use Rattle.rx_plan.specs.Plans.{plan_build}
use Rattle.rx_spec.proofs.Prelude.{start_row, whole_walk, beside, first_offset, walk, before}
use Rattle.rx_spec.specs.Contexts.{start_facts}
use Rattle.rx_spec.specs.declared.Direction.{Direction}
use Rattle.rx_spec.specs.declared.Start.{Start}
use Rattle.rx_lemmas.proofs.Facts.{start_knows}
use Rattle.rx_lemmas.proofs.HalfSearches.{IsStarted, Begun, half_begun}
use Rattle.rx_lemmas.proofs.ReadUnits.{units_from, units_from-alike, units_read, place_of, first_place}
use Rattle.rx_lemmas.proofs.ReadUnits.{first_offset_is, beside_at_place}
use Rattle.rx_lemmas.proofs.Walking.{state_walk}
use Rattle.rx_meaning.specs.Preference.{build_half_search}
use Rattle.rx_meaning.proofs.FirstSuccess.{first_of-nil, first_of-single}
use Rattle.rx_meaning.proofs.Solution.{given}
use Rattle.rx_meaning.proofs.Closures.{first_given}
use Rattle.rx_meaning.proofs.Scan.{read_in, valued, StandsAt, PlanQuery, scan_of}
use Rattle.rx_meaning.proofs.StateAssertions.{state_gives}
use Rattle.rx_meaning.proofs.LastWalks.{Foretold, walk_tells}
use Rattle.rx_lemmas.proofs.Ranges.{or_none}

-- a start row's state; where there is none, the dead one
abbrev pub first_state : Nfa → Option ℕ → Start → State
first_state nfa None start = dead_state
first_state nfa (Some row) start = start_state nfa row start

-- where a build's search of a query begins
abbrev pub query_state : Build → Direction → Query → State
query_state b direction q =
    first_state b.nfa (nfa_start b.nfa q.mode) (start_of b.nfa.line_terminator (beside direction q))

-- a search that is not refused is a walk from there over the units that are read
started_walk : (b : Build) (direction : Direction) (t : ℕ) (q : Query) → q.start ≤ q.end
    → q.end ≤ length q.haystack → IsStarted (build_settings b) (beside direction q) q.mode
    → whole_walk (power b) direction q (start_row (power b) (build_settings b) (beside direction q) q.mode)
    ≡ state_walk b direction q.earliest (query_state b direction q) (first_offset direction q) None
    (units_from (reading direction t q.haystack) (first_place direction q) (suc (q.end - q.start)))
started_walk b direction t q order inside start = grind (arith, common_steps, units_read)

pub started_search : (b : Build) (direction : Direction) (t : ℕ) (q : Query) → q.start ≤ q.end
    → q.end ≤ length q.haystack → IsStarted (build_settings b) (beside direction q) q.mode
    → build_half_search b direction q
    ≡ state_walk b direction q.earliest (query_state b direction q) (first_offset direction q) None
    (units_from (reading direction t q.haystack) (first_place direction q) (suc (q.end - q.start)))
started_search b direction t q order inside start = grind (arith, common_steps, started_walk)

module _ (a : PlanQuery) (direction : Direction) where
  abbrev nfa : Nfa
  nfa = (scan_of a direction).build.nfa

  abbrev first_row : Option ℕ
  first_row = nfa_start (scan_of a direction).build.nfa a.query.mode

  abbrev first_context : Start
  first_context = start_of (scan_of a direction).build.nfa.line_terminator (beside direction a.query)

  abbrev pub begin_state : State
  begin_state = query_state (scan_of a direction).build direction a.query

  -- a search that tells is a walk from there
  pub begun_walk : (h : Option HalfMatch)
      → Begun (power (scan_of a direction).build) (build_settings (scan_of a direction).build) direction a.query h
      → state_walk (scan_of a direction).build direction a.query.earliest begin_state
      (first_offset direction a.query) None
      (units_from (read_in (scan_of a direction)) (first_place direction a.query) (suc (a.query.end - a.query.start)))
      ≡ Ok h
  begun_walk h x =
      let b = (scan_of a direction).build in
      let q = a.query in
      let t = a.plan.line_terminator in
      let units = units_from-alike (read_in (scan_of a direction)) (reading direction t q.haystack)
      (first_place direction q) (suc (q.end - q.start)) refl in
      ap (state_walk b direction q.earliest begin_state (first_offset direction q) None) units
      ∙ sym (started_walk b direction t q x.order a.inside x.start) ∙ x.walked

  -- it stands where the search begins
  pub begin_stands : a.query.start ≤ a.query.end
      → StandsAt (scan_of a direction) begin_state (first_place direction a.query)
  begin_stands order = stands first_row
    where
      t : ℕ
      t = (scan_of a direction).build.nfa.line_terminator

      facts : start_facts t first_context
          ≡ facts_of t (before (in_order direction a.query.haystack) (first_place direction a.query))
      facts = grind (arith, common_steps, start_knows, t, beside_at_place)

      stands : (row : Option ℕ) → StandsAt (scan_of a direction)
          (first_state (scan_of a direction).build.nfa row first_context) (first_place direction a.query)
      stands None = record { roots = []; is = nothing }
        where
          nothing : dead_state ≡ state_at (scan_of a direction).build.nfa []
              (facts_of t (before (in_order direction a.query.haystack) (first_place direction a.query))) []
          nothing = unfold fresh in refl
      stands (Some row) = record {
        roots = row ∷ [];
        is = ap (λ f. state_at (scan_of a direction).build.nfa (row ∷ []) f []) facts;
      }

  -- and gives what the start row gives
  pub begin_gives : {V : Type 0} (worth : ℕ → ℕ → Option V) (i : ℕ)
      → first_given (valued (scan_of a direction) worth) i begin_state.rows
      ≡ option_and_then (λ q. given (valued (scan_of a direction) worth) q i)
      (nfa_start (scan_of a direction).build.nfa a.query.mode)
  begin_gives worth i = gives first_row
    where
      gives : (row : Option ℕ)
          → first_given (valued (scan_of a direction) worth) i
          (first_state (scan_of a direction).build.nfa row first_context).rows
          ≡ option_and_then (λ q. given (valued (scan_of a direction) worth) q i) row
      gives None = first_of-nil (λ (q : ℕ). given (valued (scan_of a direction) worth) q i)
      gives (Some row) =
          let t = (scan_of a direction).build.nfa.line_terminator in
          state_gives (scan_of a direction) worth (row ∷ []) (start_facts t first_context) [] i
          ∙ first_of-single (λ q. given (valued (scan_of a direction) worth) q i) row

  -- A search for the last match tells what is foretold of that state.
  pub last_told : (limit : ℕ) (f : Foretold (scan_of a direction) direction (length a.query.haystack) limit)
      → (a.query.start ≤ a.query.end → first_place direction a.query + (a.query.end - a.query.start) ≡ limit)
      → (h : Option HalfMatch) → a.query.earliest ≡ false
      → build_half_search (plan_build a.plan direction a.expressions) direction a.query ≡ Ok h
      → ((a.query.end < a.query.start) × (h ≡ None))
      ⊎ ((a.query.start ≤ a.query.end) × (h ≡ f.tells begin_state (first_place direction a.query)))
  last_told limit f count h last e =
      let c = scan_of a direction in
      let q = a.query in
      let n = suc (q.end - q.start) in
      let i = first_place direction q in
      let s = begin_state in
      ⊎_elim (λ (d : (q.end < q.start) × (h ≡ None)). inl d)
      (λ (g : Begun (power c.build) (build_settings c.build) direction q h).
      let all : i + n ≡ limit + 1 = omega arith in
      let units = units_from (read_in c) i n in
      let walked : state_walk c.build direction false s (place_of direction (length q.haystack) i) None units ≡ Ok h
      = ap (λ o. state_walk c.build direction false s o None units) (first_offset_is direction q g.order a.inside)
      ∙ ap (λ v. state_walk c.build direction v s (first_offset direction q) None units) (sym last)
      ∙ begun_walk h g in
      inr (
        g.order,
        walk_tells c direction (length q.haystack) limit f n i s None h all (begin_stands g.order) walked
            ∙ or_none (f.tells s i),
      ))
      (half_begun (power c.build) (build_settings c.build) direction q h e)
