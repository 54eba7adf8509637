-- The invariant of a construction that adds all reached states, over the keys of these states.
use Rattle.std.specs.Prelude.{ℕ, zero, suc, ◌≡◌, ◌<◌, Bool, List, [], ◌∷◌, ◌++◌, Some, map, slice_get, All}
use Rattle.std.specs.Prelude.{MatchBool, if◌then◌else◌}
use Rattle.rx_spec.specs.Queries.{Anchored}
use Rattle.rx_spec.specs.States.{State}
use Rattle.rx_spec.specs.Builds.{Build, Node, Quit, Running, dead, is_dead, next_node, built_entry, IsReached}
use Rattle.rx_spec.specs.declared.Start.{Start}

-- the nodes of a table's rows: dead, quit, and states
abbrev pub nodes : List State → List Node
nodes states = dead ∷ Quit ∷ map Running states

-- a node's row: 0 where it is dead, else its place
abbrev pub IsRowOf : List State → Node → ℕ → Type 0
IsRowOf states node row = MatchBool (is_dead node) (row ≡ 0) (slice_get (nodes states) row ≡ Some node)

-- the next row of a table, by those of its states: dead and quit lead to row 0
abbrev pub next_row : (ℕ → ℕ → ℕ) → ℕ → ℕ → ℕ
next_row next zero unit = 0
next_row next (suc zero) unit = 0
next_row next (suc (suc id)) unit = next id unit

-- Each key stands for a state that is reached, and the steps of the states that are done have rows.
pub record IsWorkList (b : Build) (state_of : List ℕ → State) (next : ℕ → ℕ → ℕ) (keys : List (List ℕ)) (done : ℕ)
    : Type 0 where
  pub reached : All (λ key. IsReached b (state_of key)) keys
  pub steps : (id : ℕ) (key : List ℕ) → slice_get keys id ≡ Some key → id < done → (unit : ℕ) → unit < 257
      → IsRowOf (map state_of keys) (next_node b (Running (state_of key)) unit) (next id unit)

-- the starts have rows
abbrev pub AreStartRows : Build → List State → (Anchored → Start → ℕ) → Type 0
AreStartRows b states entry = (mode : Anchored) (start : Start)
    → IsRowOf states (built_entry b mode start) (entry mode start)

-- what interning a key answers of the keys
pub record Interns (before : List (List ℕ)) (key : List ℕ) (id : ℕ) (after : List (List ℕ)) : Type 0 where
  pub is_new : Bool
  pub keys : after ≡ (if is_new then before ++ key ∷ [] else before)
  pub here : slice_get after id ≡ Some key
