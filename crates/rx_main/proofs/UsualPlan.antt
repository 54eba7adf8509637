-- A search by the usual plan that may begin anywhere has no error: no byte is a quit byte, and there are starts.
use Rattle.rx_spec.proofs.Prelude.{common_steps, ◌≡◌, ℕ, ◌+◌, zero, suc, Bool, true, false, List, [], ◌∷◌, Option, Some}
use Rattle.rx_spec.proofs.Prelude.{None, refl, ap, sym, ◌∙◌, ◌-◌, ◌≤◌, length, subst, arith, Ok, contains, unit_of}
use Rattle.rx_spec.proofs.Prelude.{Expression, found, HalfAnswer, beside, first_offset, half_search, last_match}
use Rattle.rx_spec.proofs.Prelude.{next_offset, units_of, whole_walk, FoundMatches, and_then, is_repeat, iterate}
use Rattle.rx_spec.proofs.Prelude.{iterate_from, unless_repeat, Answer, label_of}
use Rattle.rx_plan.specs.Plans.{outcome, plan_build, unless_error}
use Rattle.rx_spec.proofs.Prelude.{Anchored, HalfMatch, Match, Query, is_done, has_unanchored, start_context, start_row}
use Rattle.rx_spec.proofs.Prelude.{State, start_state, step, Build, Node, build_settings, power}
use Rattle.rx_spec.specs.declared.Direction.{Direction}
use Rattle.rx_lemmas.proofs.Firsts.{by_test}
use Rattle.rx_lemmas.proofs.HalfSearches.{IsStarted, half_done, half_walks, not_refused}
use Rattle.rx_lemmas.proofs.Walking.{Dead, Quits, Steps, goes_on, leads, state_walk, walk-nil, walk_dead, walk_steps}
use Rattle.rx_meaning.proofs.IteratedSearches.{iterate_alike}
use Rattle.rx_plan.specs.Plan.{plan_of, usual}
use Rattle.rx_lemmas.proofs.ByteSets.{contains-empty}

-- ---- half searches of a build without quit bytes

module _ (b : Build) (clean : (unit : ℕ) → contains b.quit unit ≡ false) (direction : Direction) where
  -- a walk for the last match tells
  walk_tells : (s : State) (offset : ℕ) (last : Option HalfMatch) (units : List ℕ)
      → (h : Option HalfMatch) × (state_walk b direction false s offset last units ≡ Ok h)
  walk_tells s offset last [] = (last, walk-nil (power b) direction false (Node.Running s) offset last)
  walk_tells s offset last (unit ∷ units) =
      elim (leads b s unit) as
      (λ l. (h : Option HalfMatch) × (state_walk b direction false s offset last (unit ∷ units) ≡ Ok h)) [
        | Dead d ↦ (last, walk_dead b direction false s offset last (unit ∷ units) d)
        | Quits d q ↦ absurd (let c = clean unit in cc)
        | Steps d q ↦
            let next = step b.nfa b.kind s unit in
            let met = last_match (label_of next.label) offset last in
            let later = state_walk b direction false next (next_offset direction offset) met units in
            let on = walk_tells next (next_offset direction offset) met units in (
              on.0,
              walk_steps b direction false s unit offset last units d q
                  ∙ goes_on next.label direction unit offset (Ok met) later ∙ on.1,
            )
      ]

-- where a search begins that may begin anywhere
begins_running : (b : Build) (byte : Option ℕ) → has_unanchored b.start_kind ≡ true
    → (s : State) × (start_row (power b) (build_settings b) byte Anchored.No ≡ Node.Running s)
begins_running b byte has =
    (start_state b.nfa b.nfa.start_unanchored (start_context (build_settings b) byte), rw has refl)

-- it tells
half_tells : (b : Build) (direction : Direction) (q : Query) → ((unit : ℕ) → contains b.quit unit ≡ false)
    → has_unanchored b.start_kind ≡ true → q.mode ≡ Anchored.No → q.earliest ≡ false
    → (h : Option HalfMatch) × (half_search (power b) (build_settings b) direction q ≡ Ok h)
half_tells b direction q clean has any last = by_test (is_done q) (λ d. (None, half_done _ _ direction q d)) begins
  where
    start : IsStarted (build_settings b) (beside direction q) q.mode
    start = subst (IsStarted (build_settings b) (beside direction q)) (sym any)
        (record { clean = clean (unit_of (beside direction q)); supported = has })

    begins : is_done q ≡ false
        → (h : Option HalfMatch) × (half_search (power b) (build_settings b) direction q ≡ Ok h)
    begins going =
        let first = begins_running b (beside direction q) has in
        let told = walk_tells b clean direction first.0 (first_offset direction q) None (units_of direction q) in (
          told.0,
          half_walks (power b) (build_settings b) direction q going
              (not_refused (build_settings b) (beside direction q) q.mode start)
              ∙ ap
              (λ m. whole_walk (power b) direction q (start_row (power b) (build_settings b) (beside direction q) m))
              any
              ∙ ap (whole_walk (power b) direction q) first.1
              ∙ ap (λ e. walk_of e first.0) last ∙ told.1,
        )
      where
        walk_of : Bool → State → HalfAnswer
        walk_of e s = state_walk b direction e s (first_offset direction q) None (units_of direction q)

-- ---- whole searches of the usual plan

abbrev pub found_by : List Expression → Query → Answer
found_by es q = Ok (found es 10 q)

pub outcome_usual : (es : List Expression) (q : Query) → q.mode ≡ Anchored.No
    → outcome (plan_of usual) es q ≡ found_by es q
outcome_usual es q any =
    let told = half_tells (plan_build (plan_of usual) Direction.Forward es) Direction.Forward
    (record q { earliest = false }) contains-empty refl any refl in
    ap (λ (half : HalfAnswer). unless_error half (found_by es q)) told.1

-- ---- one after another

pub iterated_usual : (es : List Expression) (q : Query) → q.mode ≡ Anchored.No
    → iterate (outcome (plan_of usual) es) q ≡ iterate (found_by es) q
iterated_usual es q any =
    iterate_alike (outcome (plan_of usual) es) (found_by es) q q
    (λ start. outcome_usual es (record q { start = start }) any) refl refl

-- so few matches, and no error ends them
pub record AreFew (found : FoundMatches) (n : ℕ) : Type 0 where
  pub few : length found.matches ≤ n
  pub no_error : found.error ≡ None

-- a search without errors gives matches alone, and no more than are asked for
module _ (f : Query → Option Match) where
  abbrev searched : Query → Answer
  searched q = Ok (f q)

  next_few : (n : ℕ) (next : Option Match) (others : Match → FoundMatches) → ((m : Match) → AreFew (others m) n)
      → AreFew (and_then (Ok next) others) (suc n)
  next_few n None others each = record { few = omega arith; no_error = refl }
  next_few n (Some m) others each = grind (arith, common_steps)

  unless_searched : (q : Query) (last_end : Option ℕ) (next : Option Match)
      → (other : Option Match) × (unless_repeat searched q last_end (Ok next) ≡ Ok other)
  unless_searched q last_end None = (None, refl)
  unless_searched q last_end (Some m) =
      by_test (is_repeat last_end m) (λ t. (f (record q { start = q.start + 1 }), rw t refl)) (λ t. (Some m, rw t refl))

  iterated_few : (n : ℕ) (q : Query) (last_end : Option ℕ) → AreFew (iterate_from searched n q last_end) n
  unfolding iterate_from
  iterated_few zero q last_end = record { few = omega arith; no_error = refl }
  iterated_few (suc n) q last_end =
      let others = λ (m : Match). iterate_from searched n (record q { start = m.end }) (Some m.end) in
      let next = unless_searched q last_end (f q) in
      subst (λ (answer : Answer). AreFew (and_then answer others) (suc n)) (sym next.1)
      (next_few n next.0 others (λ m. iterated_few n (record q { start = m.end }) (Some m.end)))

pub searched_few : (es : List Expression) (q : Query)
    → AreFew (iterate (found_by es) q) (q.end + 2 - q.start)
searched_few es q = iterated_few (λ (asked : Query). found es 10 asked) (q.end + 2 - q.start) q None
