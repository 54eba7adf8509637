-- Between two groups of the steps that are found.
use Rattle.rx_spec.proofs.Prelude.{common_steps, ◌≡◌, ◌≢◌, ◌+◌, ◌<◌, ◌≤◌, ◌++◌, Bool, true, false, List, [], ℕ, length}
use Rattle.rx_spec.proofs.Prelude.{map, arith, ◌∷◌, refl, or_parts, slice_index_or, list_any, Facts, Row, State}
use Rattle.rx_spec.proofs.Prelude.{is_match_row, row_at}
use Rattle.rx_stepper.proofs.Prelude.{AreGroups, MatchKind, NFA, Reads, Stand, ColumnSteps, list_at, matches_of}
use Rattle.rx_stepper.proofs.Prelude.{meaning, rows_in}
use Rattle.rx_stepper.specs.declared.closures.Closures.{Closures}
use Rattle.rx_stepper.specs.declared.columns.Columns.{Columns}
use Rattle.rx_stepper.proofs.StepLaws.{Done}

-- what they are found of
pub record Finding : Type 0 where
  pub closures : Closures
  pub columns : Columns
  pub kind : MatchKind
  pub rows : List ℕ
  pub last : Facts
  -- how many columns there are, and the room of a closure
  pub count : ℕ
  pub room : ℕ

abbrev pub stand : NFA → MatchKind → State → Stand
stand nfa kind state = record { nfa = meaning nfa; kind = kind; state = state }

abbrev pub stand_of : Finding → Stand
stand_of f = stand f.closures.nfa.now f.kind (rows_in f.rows f.last)

pub record Between (f : Finding) (group : ℕ) (steps : ColumnSteps) (closures : Closures) (room : ℕ) : Type 0 where
  pub nfa : closures.nfa.now ≡ f.closures.nfa.now
  pub columns : length steps.targets.items ≡ f.count
  pub kept_room : f.room ≤ room
  pub done : (units : List ℕ)
      → Reads (meaning f.closures.nfa.now).rows units f.columns.reading.columns.items f.columns.reading.spans.items
      → AreGroups (meaning f.closures.nfa.now) units f.columns.groups.of.items
      → Done (stand_of f) units f.columns.groups.of.items group (map (λ v. v.items) steps.targets.items)
      (map (λ v. v.items) steps.matches.items)

-- ---- rows of which none matches

pub none_match : (rows : List Row) (qs : List ℕ) → list_any (λ q. is_match_row (row_at rows q)) qs ≡ false
    → matches_of rows qs ≡ []
none_match rows [] none = refl
none_match rows (q ∷ qs) none =
    let p = λ (x : ℕ). is_match_row (row_at rows x) in
    let parts = or_parts (p q) (list_any p qs) none in
    rw parts.0 (none_match rows qs parts.1)

-- ---- rows among which none asserts: all groups have the same matches

-- Between two groups: those before that have a column have the matches, and the others none yet.
pub record MatchesTo (lists : List (List ℕ)) (used : List Bool) (matches : List ℕ) (group : ℕ) : Type 0 where
  pub done : (g : ℕ) → g < group → slice_index_or used g false ≡ true → list_at lists g ≡ matches
  pub left : (g : ℕ) → group ≤ g → list_at lists g ≡ []

module _ {lists : List (List ℕ)} {used : List Bool} {matches : List ℕ} {group : ℕ}
    (m : MatchesTo lists used matches group) where
  pub matches_more : {more : List (List ℕ)} → ((place : ℕ) → place ≢ group → list_at more place ≡ list_at lists place)
      → list_at more group ≡ list_at lists group ++ matches → MatchesTo more used matches (group + 1)
  matches_more {more} others here = grind (arith, common_steps)

pub record PlainBetween (start now : ColumnSteps) (used : List Bool) (matches : List ℕ) (group : ℕ) : Type 0 where
  pub targets : now.targets ≡ start.targets
  pub has : now.has_matches ≡ true
  pub told : MatchesTo (map (λ v. v.items) now.matches.items) used matches group
