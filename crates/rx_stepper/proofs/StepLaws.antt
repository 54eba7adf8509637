-- Steps of a state: how its groups are gone through, and what its columns lead to.
use Rattle.rx_spec.proofs.Prelude.{common_steps, ◌≡◌, ◌≢◌, ℕ, ◌+◌, ◌<◌, ◌≤◌, ◌==◌, Bool, true, false, if◌then◌else◌}
use Rattle.rx_spec.proofs.Prelude.{List, [], ◌∷◌, ◌++◌, length, refl, ap, ap₂, sym, ◌∙◌, arith, append-nil, slice_index}
use Rattle.rx_spec.proofs.Prelude.{slice_index_or, flat_map, ne_eqb, id_count, Facts, Nfa, Row, Passing, Standing}
use Rattle.rx_spec.proofs.Prelude.{Tested, row_at, cut, to_first_match, fresh, decided_rows, holds_before, is_match_row}
use Rattle.rx_spec.proofs.Prelude.{target, step}
use Rattle.rx_stepper.proofs.Prelude.{AreEmpty, AreGroups, AreSteps, AreUsed, IsStep, MatchKind, Stand, asked_of}
use Rattle.rx_stepper.proofs.Prelude.{closed_rows, facts_with, first_few, flat_map-flat_map, goes_on, going, going_by}
use Rattle.rx_stepper.proofs.Prelude.{led, list_at, made, matches_of, only_if, patterns_of, rows_in, without}
use Rattle.rx_stepper.proofs.Decisions.{decided_asked}
use Rattle.rx_stepper.proofs.LedSteps.{closed_led, cut_led, cut_led_off, patterns_matches, patterns_without}
use Rattle.rx_stepper.proofs.Without.{led_gives}

-- ---- the groups, one after another

-- Between two groups: the columns of those before have what they need, and the others nothing yet.
pub record Done (s : Stand) (units groups : List ℕ) (i : ℕ) (targets matches : List (List ℕ)) : Type 0 where
  pub done : (column : ℕ) → column < length units → slice_index groups column < i
      → IsStep s (slice_index units column) (list_at targets column) (list_at matches (slice_index groups column))
  pub left : (column : ℕ) → column < length units → i ≤ slice_index groups column → list_at targets column ≡ []
  pub matches_left : (place : ℕ) → i ≤ place → list_at matches place ≡ []

-- a group that has no column
pub done_passed : {s : Stand} {units groups : List ℕ} {i : ℕ} {targets matches : List (List ℕ)} (used : List Bool)
    → length groups ≡ length units → AreUsed groups used → slice_index_or used i false ≡ false
    → Done s units groups i targets matches → Done s units groups (i + 1) targets matches
done_passed {units = units} {groups} {i} used len are unused d = grind (arith, common_steps)

flat_nothing : (xs : List ℕ) → flat_map {A = ℕ} (λ (q : ℕ). []) xs ≡ []
flat_nothing [] = refl
flat_nothing (x ∷ xs) = flat_nothing xs

-- what a group's columns were found to need
pub record GroupDone (s : Stand) (units groups : List ℕ) (i : ℕ) (targets matches targets' matches' : List (List ℕ))
    (goes : List ℕ) : Type 0 where
  pub others : (place : ℕ) → place ≢ i → list_at matches' place ≡ list_at matches place
  pub told : list_at matches' i ≡ list_at matches i ++ matches_of s.nfa.rows goes
  pub few : length (matches_of s.nfa.rows goes) ≤ id_count
  pub lists : (column : ℕ) → column < length units
      → list_at targets' column ≡ list_at targets column
      ++ flat_map (λ q. only_if (slice_index groups column == i) (target (slice_index units column)
      (row_at s.nfa.rows q))) goes
  pub goes_on : (column : ℕ) → column < length units → slice_index groups column ≡ i
      → goes ≡ going s (slice_index units column)

module _ {s : Stand} {units groups : List ℕ} {i : ℕ} {targets matches targets' matches' : List (List ℕ)} {goes : List ℕ}
    (g : GroupDone s units groups i targets matches targets' matches' goes)
    (d : Done s units groups i targets matches) where
  unchanged : (column : ℕ) → column < length units → slice_index groups column ≢ i
      → list_at targets' column ≡ list_at targets column
  unchanged column h other =
      let apart = ne_eqb (slice_index groups column) i other in
      let leads = λ (b : Bool). flat_map (λ q. only_if b (target (slice_index units column)
      (row_at s.nfa.rows q))) goes in
      g.lists column h ∙ ap (λ b. list_at targets column ++ leads b) apart
      ∙ ap (λ l. list_at targets column ++ l) (flat_nothing goes) ∙ append-nil (list_at targets column)

  stays : (column : ℕ) → column < length units → slice_index groups column < i
      → IsStep s (slice_index units column) (list_at targets' column) (list_at matches' (slice_index groups column))
  stays column h lt = grind (arith, common_steps, unchanged)

  here : (column : ℕ) → column < length units → slice_index groups column ≡ i
      → IsStep s (slice_index units column) (list_at targets' column) (list_at matches' (slice_index groups column))
  here column h e = grind (arith, common_steps)

  pub done_more : Done s units groups (i + 1) targets' matches'
  done_more = grind (arith, common_steps, stays, here, unchanged)

-- the facts of a group decide for its columns
pub group_goes : (s : Stand) (units groups : List ℕ) (i : ℕ) {last : Facts} {from : List ℕ}
    → AreGroups s.nfa units groups
    → last ≡ s.state.context → from ≡ s.state.rows → (column : ℕ) → column < length units
    → slice_index groups column ≡ i
    → going_by s.nfa s.kind last (facts_with i) from ≡ going s (slice_index units column)
group_goes s units groups i {last} {from} are context rows column h e =
    let facts = ap facts_with (sym e) ∙ (are.each column h).facts in
    ap (going_by s.nfa s.kind last (facts_with i)) rows
    ∙ ap (cut s.kind s.nfa.rows) (decided_asked s.nfa s.state (slice_index units column) refl context facts)

pub all_done : {s : Stand} {units groups : List ℕ} {i : ℕ} {targets matches : List (List ℕ)}
    → ((column : ℕ) → column < length units → slice_index groups column < i) → Done s units groups i targets matches
    → AreSteps s units groups targets matches
all_done below d column h = d.done column h (below column h)

few_matches : (rows : List Row) (qs : List ℕ) → length (matches_of rows qs) ≤ length qs
few_matches rows [] = omega arith
few_matches rows (q ∷ qs) =
    let one : (b : Bool) → length (if b then q ∷ matches_of rows qs else matches_of rows qs) ≤ length (q ∷ qs) =
    λ b. elim b as (λ v. length (if v then q ∷ matches_of rows qs else matches_of rows qs) ≤ length (q ∷ qs)) [
      | true ↦ omega (arith, few_matches rows qs)
      | false ↦ omega (arith, few_matches rows qs)
    ] in
    one (is_match_row (row_at rows q))

-- a state among whose rows none asserts: one unit is as another
pub plain_steps : (s : Stand) (units groups : List ℕ) (used : List Bool) (targets matches : List (List ℕ))
    {going' : List ℕ} → going' ≡ cut s.kind s.nfa.rows s.state.rows
    → ((unit : ℕ) → decided_rows s.nfa unit s.state ≡ s.state.rows) → length groups ≡ length units
    → AreUsed groups used → length (matches_of s.nfa.rows going') ≤ id_count
    → ((group : ℕ) → slice_index_or used group false ≡ true → list_at matches group ≡ matches_of s.nfa.rows going')
    → ((column : ℕ) → column < length units
    → list_at targets column ≡ flat_map (λ q. target (slice_index units column) (row_at s.nfa.rows q)) going')
    → AreSteps s units groups targets matches
plain_steps s units groups used targets matches {going'} e plain len are few ms ts column h =
    grind (arith, common_steps)

-- no more rows match than there are
pub few_told : (kind : MatchKind) (rows : List Row) (qs : List ℕ)
    → length (matches_of rows (cut kind rows qs)) ≤ length qs
few_told kind rows qs = grind (arith, common_steps, few_matches, first_few)

-- no rows need nothing
cut_nil : (kind : MatchKind) (nfa : Nfa) → cut kind nfa.rows [] ≡ []
unfolding to_first_match
cut_nil kind nfa = grind (arith, common_steps)

fresh_nil : fresh [] [] ≡ []
unfolding fresh
fresh_nil = refl

pub dead_steps : (s : Stand) (units groups : List ℕ) (targets matches : List (List ℕ)) → s.state.rows ≡ []
    → AreEmpty targets → AreEmpty matches → AreSteps s units groups targets matches
dead_steps s units groups targets matches none t l column h = grind (arith, common_steps, fresh_nil, cut_nil)

-- ---- a step, from what its column needs

-- where all rows of a state lead on a unit, as far as it is reached from there, and its label
pub record Leads (s : Stand) (unit : ℕ) (from label : List ℕ) : Type 0 where
  pub reaches : closed_rows s.nfa.rows Standing from
      ≡ closed_rows s.nfa.rows Standing (flat_map (λ q. target unit (row_at s.nfa.rows q)) (going s unit))
  pub label_is : label ≡ patterns_of s.nfa.rows (going s unit)

pub step_made : (s : Stand) (unit : ℕ) {from label : List ℕ} → Leads s unit from label
    → step s.nfa s.kind s.state unit ≡ made s.nfa from (asked_of s.nfa unit) label
unfolding step
step_made s unit is = grind (arith, common_steps)

-- columns of one group that lead alike lead to one state
pub neighbours : (s : Stand) (u v : ℕ) {from others label : List ℕ} → asked_of s.nfa u ≡ asked_of s.nfa v
    → from ≡ others → Leads s u from label → Leads s v others label
    → step s.nfa s.kind s.state u ≡ step s.nfa s.kind s.state v
neighbours s u v {label = label} asked same is other =
    step_made s u is ∙ ap₂ (λ t f. made s.nfa t f label) same asked ∙ sym (step_made s v other)

-- the steps of rows that aren't led, or behind a match that cuts
pub leads_alone : (s : Stand) (unit : ℕ) {own targets matches : List ℕ}
    → IsStep (record { nfa = s.nfa; kind = s.kind; state = rows_in own s.state.context }) unit targets matches
    → going s unit ≡ going (record { nfa = s.nfa; kind = s.kind; state = rows_in own s.state.context }) unit
    → Leads s unit targets (patterns_of s.nfa.rows matches)
leads_alone s unit is same = grind (arith, common_steps, patterns_matches)

module _ (s : Stand) (unit : ℕ) (own lead : List ℕ) (rows_are : s.state.rows ≡ led own lead) where
  abbrev by : List ℕ → Stand
  by rows = record { nfa = s.nfa; kind = s.kind; state = rows_in rows s.state.context }

  abbrev pass : Passing
  pass = Tested (holds_before s.nfa unit s.state)

  abbrev reads : ℕ → List ℕ
  reads q = target unit (row_at s.nfa.rows q)

  decided_led : decided_rows s.nfa unit s.state
      ≡ led (decided_rows s.nfa unit (by own).state) (decided_rows s.nfa unit (by lead).state)
  decided_led = ap (closed_rows s.nfa.rows pass) rows_are ∙ closed_led s.nfa.rows pass own lead

  -- The rows of the lead-in go on behind the own ones,
  pub going_led : goes_on s.kind (matches_of s.nfa.rows (going (by own) unit)) ≡ true
      → going s unit ≡ led (going (by own) unit) (going (by lead) unit)
  going_led h = grind (arith, common_steps, decided_led, cut_led)

  -- or a match of these cuts them off.
  pub going_alone : goes_on s.kind (matches_of s.nfa.rows (going (by own) unit)) ≡ false
      → going s unit ≡ going (by own) unit
  going_alone h = grind (arith, common_steps, decided_led, cut_led_off)

  pub leads_led : {targets matches others told : List ℕ} → IsStep (by own) unit targets matches
      → IsStep (by lead) unit others told → goes_on s.kind matches ≡ true
      → Leads s unit (targets ++ others) (patterns_of s.nfa.rows (matches ++ without matches told))
  leads_led {targets} {matches} {others} {told} mine theirs h =
      grind (arith, common_steps, going_led, flat_map-flat_map, led_gives, patterns_matches, patterns_without)
