-- The invariant while states are added to a table.
use Rattle.std.specs.Prelude.{ℕ, ◌≡◌, ◌<◌, ◌≤◌, ◌+◌, ◌*◌, Bool, true, is_some, Some, List, []}
use Rattle.std.specs.Prelude.{length, map, All, AllPairs, IfSome, ◌≢◌}
use Rattle.rx_spec.specs.Builds.{Build, IsReached}
use Rattle.rx_spec.specs.Causes.{Exceeds, max_id}
use Rattle.rx_spec.specs.Queries.{Anchored}
use Rattle.rx_spec.specs.Sizes.{determinizer_size, label_total, table_size, last_id}
use Rattle.rx_spec.specs.States.{State}
use Rattle.rx_spec.specs.declared.Start.{Start}
use Rattle.rx_dense.specs.Layouts.{Layout, machine_of, row_count, stride}
use Rattle.rx_stepper.specs.Stepping.{Stepping}
use Rattle.rx_expr.specs.declared.build_error.BuildErrorKind.{BuildErrorKind}
use Rattle.rx_determinize.specs.declared.settled.Settled.{Settled}

-- what a stepper steps for a table: the table's build, and what keys stand for
pub record Keying : Type 0 where
  pub build : Build
  pub is_key : List ℕ → Bool
  pub state_of : List ℕ → State

abbrev pub keying : Stepping → Layout → Keying
keying s l = record {
  build = record {
    nfa = s.nfa;
    kind = s.kind;
    start_kind = l.start_kind;
    pattern_starts = is_some l.pattern_starts;
    quit = l.quit;
  };
  is_key = s.is_key;
  state_of = s.state_of;
}

-- the states that were met: their keys, the bytes that all of them count for, and how many patterns all labels name
pub record Met : Type 0 where
  pub keys : List (List ℕ)
  pub size : ℕ
  pub patterns : ℕ

abbrev pub none_met : Met
none_met = record { keys = []; size = 0; patterns = 0 }

abbrev pub states_of : Keying → Met → List State
states_of k met = map k.state_of met.keys

-- the bytes of a table that has no patterns yet
abbrev pub bytes_of : Layout → ℕ
bytes_of l = 4 * (length l.words + length l.starts + 1)

-- neither patterns nor needles were set
pub record IsBare (l : Layout) : Type 0 where
  pub slices : l.slices ≡ []
  pub pattern_ids : l.pattern_ids ≡ []
  pub accels : l.accels ≡ []

-- Each state that was met has a row behind dead and quit, and no size passes its limit.
pub record IsWorking (k : Keying) (settled : Settled) (met : Met) (l : Layout) : Type 0 where
  pub bare : IsBare l
  pub count : row_count l ≡ length met.keys + 2
  pub distinct : AllPairs (λ x y. x ≢ y) (states_of k met)
  pub are_keys : All (λ key. k.is_key key ≡ true) met.keys
  pub reached : All (λ key. IsReached k.build (k.state_of key)) met.keys
  pub size : met.size ≡ determinizer_size (states_of k met)
  pub patterns : met.patterns ≡ label_total (states_of k met)
  pub few_patterns : met.patterns ≤ max_id
  pub table : 0 < length met.keys → IfSome settled.dfa_size_limit (λ limit. bytes_of l ≤ limit)
  pub construction : 0 < length met.keys → IfSome settled.determinize_size_limit (λ limit. met.size ≤ limit)

-- what the construction can be refused for, by some states that were met
abbrev pub IsOver : Keying → Settled → Layout → BuildErrorKind → Type 0
IsOver k settled l (BuildErrorKind.NFA error) = ⊥
IsOver k settled l BuildErrorKind.Unsupported = ⊥
IsOver k settled l BuildErrorKind.TooManyStates = Exceeds k.build (λ states. last_id (length states) (stride l)) max_id
IsOver k settled l BuildErrorKind.TooManyMatchPatternIDs = Exceeds k.build label_total max_id
IsOver k settled l (BuildErrorKind.DFAExceededSizeLimit limit) =
    (settled.dfa_size_limit ≡ Some limit)
    × Exceeds k.build (λ states. table_size (length states) (stride l) (length l.starts)) limit
IsOver k settled l (BuildErrorKind.DeterminizeExceededSizeLimit limit) =
    (settled.determinize_size_limit ≡ Some limit) × Exceeds k.build determinizer_size limit
IsOver k settled l BuildErrorKind.Memory = Unit {0}

-- ---- rows

-- the next rows of states, and the rows where searches start
abbrev pub next_in : Layout → ℕ → ℕ → ℕ
next_in l id unit = (machine_of l).next (id + 2) unit

abbrev pub entry_in : Layout → Anchored → Start → ℕ
entry_in l mode start = (machine_of l).entry mode start
