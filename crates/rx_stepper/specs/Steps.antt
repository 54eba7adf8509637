-- What the steps of some rows need on each column, and the state that follows.
use Rattle.std.specs.Prelude.{ℕ, ◌≡◌, ◌<◌, ◌≤◌, Bool, true, false, if◌then◌else◌, List, [], ◌∷◌, length, filter}
use Rattle.std.specs.Prelude.{slice_index}
use Rattle.std.specs.List.{flat_map, list_any}
use Rattle.rx_spec.specs.Builds.{is_dead_state}
use Rattle.rx_spec.specs.Causes.{id_count}
use Rattle.rx_spec.specs.Nfas.{Nfa}
use Rattle.rx_spec.specs.Contexts.{Facts, holds_read, no_facts}
use Rattle.rx_spec.specs.Rows.{Row}
use Rattle.rx_spec.specs.Closures.{closed_rows}
use Rattle.rx_spec.specs.States.{State, Standing, Tested, row_at, decided_rows, cut, pattern_of, target, is_match_row}
use Rattle.rx_spec.specs.States.{is_look_row}
use Rattle.rx_spec.specs.declared.MatchKind.{MatchKind}
use Rattle.rx_stepper.specs.Columns.{list_at}
use Rattle.rx_stepper.specs.Keys.{is_key, spelled}
use Rattle.rx_stepper.specs.Leads.{lead_of}

-- what makes a step: the NFA, which matches are told, and the state
pub record Stand : Type 0 where
  pub nfa : Nfa
  pub kind : MatchKind
  pub state : State

-- rows beside what is known of the unit read last, as a state that tells nothing
abbrev pub rows_in : List ℕ → Facts → State
rows_in rows context = record { rows = rows; context = context; label = [] }

-- the rows that go on where this is known of the unit read last and of the next one
abbrev pub going_by : Nfa → MatchKind → (last next : Facts) → List ℕ → List ℕ
going_by nfa kind last next from =
    cut kind nfa.rows (closed_rows nfa.rows (Tested (λ look. holds_read nfa.direction look last next)) from)

-- the rows that go on before a unit
abbrev pub going : Stand → ℕ → List ℕ
going s unit = cut s.kind s.nfa.rows (decided_rows s.nfa unit s.state)

-- those that match, and the patterns that rows match
abbrev pub matches_of : List Row → List ℕ → List ℕ
matches_of rows qs = filter (λ q. is_match_row (row_at rows q)) qs

abbrev pub patterns_of : List Row → List ℕ → List ℕ
patterns_of rows qs = flat_map (λ q. pattern_of (row_at rows q)) qs

-- whether less preferred rows go on too where these matched: leftmost-first none behind a match
abbrev pub goes_on : MatchKind → List ℕ → Bool
goes_on MatchKind.All matches = true
goes_on MatchKind.LeftmostFirst [] = true
goes_on MatchKind.LeftmostFirst (q ∷ qs) = false

-- where the rows that go on lead on the unit, and those that match
pub record IsStep (s : Stand) (unit : ℕ) (targets matches : List ℕ) : Type 0 where
  pub targets_are : targets ≡ flat_map (λ q. target unit (row_at s.nfa.rows q)) (going s unit)
  pub matches_are : matches ≡ matches_of s.nfa.rows (going s unit)
  pub few : length matches ≤ id_count

-- the same of all columns; the matches serve a group
abbrev pub AreSteps : Stand → (units groups : List ℕ) → (targets matches : List (List ℕ)) → Type 0
AreSteps s units groups targets matches = (column : ℕ) → column < length units
    → IsStep s (slice_index units column) (list_at targets column) (list_at matches (slice_index groups column))

abbrev pub AreEmpty : List (List ℕ) → Type 0
AreEmpty lists = (place : ℕ) → list_at lists place ≡ []

-- ---- the state that follows

-- a state from where rows lead, as far as assertions ask for its facts
abbrev pub made : Nfa → (from : List ℕ) → (asked : Facts) → (label : List ℕ) → State
made nfa from asked label =
    let rows = closed_rows nfa.rows Standing from in
    record {
      rows = rows;
      context = if list_any (λ q. is_look_row (row_at nfa.rows q)) rows then asked else no_facts;
      label = label;
    }

-- its key
pub record IsMadeKey (nfa : Nfa) (from : List ℕ) (asked : Facts) (label key : List ℕ) : Type 0 where
  pub is_key : is_key nfa.rows (lead_of nfa) key ≡ true
  pub stands_for : spelled (lead_of nfa) key ≡ made nfa from asked label
  pub alive : is_dead_state (made nfa from asked label) ≡ false
