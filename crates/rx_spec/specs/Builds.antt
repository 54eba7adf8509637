-- What is built: the powerset machine of an NFA, and which of its states are reached.
use Rattle.std.specs.Prelude.{ℕ, ◌≡◌, ◌≢◌, ◌==◌, Bool, false, ◌&&◌, if◌then◌else◌, Option, Some, None, List, []}
use Rattle.std.specs.Prelude.{◌∷◌, ◌++◌, length, slice_get, Contains, map, AllPairs, All}
use Rattle.std.specs.List.{range_with_len}
use Rattle.rx_spec.specs.Bytes.{contains}
use Rattle.rx_spec.specs.Contexts.{start_of_byte}
use Rattle.rx_spec.specs.Queries.{Anchored}
use Rattle.rx_spec.specs.Machines.{Label, label_of, Machine, IsWord, run, Settings}
use Rattle.rx_spec.specs.Nfas.{Nfa}
use Rattle.rx_spec.specs.Starts.{has_unanchored, has_anchored, supports}
use Rattle.rx_spec.specs.States.{State, dead_state, start_state, step}
use Rattle.rx_spec.specs.declared.MatchKind.{MatchKind}
use Rattle.rx_spec.specs.declared.Start.{Start}
use Rattle.rx_spec.specs.declared.StartKind.{StartKind}

-- A build: an NFA, which matches are told, for which modes there are starts, whether each pattern has
-- starts of its own, and the quit set in effect.
pub record Build : Type 0 where
  pub nfa : Nfa
  pub kind : MatchKind
  pub start_kind : StartKind
  pub pattern_starts : Bool
  pub quit : ℕ

-- A node of the powerset machine: a state, or quit, where a quit byte was read.
pub data Node : Type 0 where
  Quit : Node
  Running : (state : State) → Node

abbrev pub dead : Node
dead = Running dead_state

-- no rows and no label
abbrev pub is_dead_state : State → Bool
is_dead_state s = (length s.rows == 0) && (length s.label == 0)

abbrev pub is_dead : Node → Bool
is_dead Quit = false
is_dead (Running s) = is_dead_state s

-- dead leads to dead, and so does quit; a quit byte leads to quit from everywhere else
abbrev pub next_node : Build → Node → ℕ → Node
next_node b Quit unit = dead
next_node b (Running s) unit =
    if is_dead_state s then dead
    else (if contains b.quit unit then Quit else Running (step b.nfa b.kind s unit))

abbrev pub node_label : Node → Label
node_label Quit = Label.Quits
node_label (Running s) = label_of s.label

-- the NFA's start row for a mode; a pattern past the list has none
abbrev pub nfa_start : Nfa → Anchored → Option ℕ
nfa_start nfa Anchored.No = Some nfa.start_unanchored
nfa_start nfa Anchored.Yes = Some nfa.start_anchored
nfa_start nfa (Anchored.Pattern k) = slice_get nfa.start_patterns k

abbrev pub start_node : Nfa → Option ℕ → Start → Node
start_node nfa None start = dead
start_node nfa (Some row) start = Running (start_state nfa row start)

abbrev pub built_entry : Build → Anchored → Start → Node
built_entry b mode start =
    if supports b.start_kind b.pattern_starts mode then start_node b.nfa (nfa_start b.nfa mode) start else dead

-- the powerset machine of a build
abbrev pub power : Build → Machine Node
power b = record { entry = built_entry b; next = next_node b; label = node_label; is_dead = is_dead }

-- how a search of it begins
abbrev pub build_settings : Build → Settings
build_settings b = record {
  start_kind = b.start_kind;
  pattern_starts = if b.pattern_starts then Some (length b.nfa.start_patterns) else None;
  start_of_byte = start_of_byte b.nfa.line_terminator;
  quit = b.quit;
}

-- the modes of so many patterns
abbrev pub pattern_modes : ℕ → List Anchored
pattern_modes n = map (λ k. Anchored.Pattern k) (range_with_len 0 n)

-- the modes for which a build has starts
abbrev pub built_modes : Build → List Anchored
built_modes b =
    (if has_unanchored b.start_kind then Anchored.No ∷ [] else [])
    ++ (if has_anchored b.start_kind then Anchored.Yes ∷ [] else [])
    ++ (if b.pattern_starts then pattern_modes (length b.nfa.start_patterns) else [])

-- the node to which a word leads from a start of a build
abbrev pub node_after : Build → Anchored → Start → List ℕ → Node
node_after b mode start word = run (next_node b) (built_entry b mode start) word

-- a state to which some word of units leads from some start that is built, and that isn't dead
pub record IsReached (b : Build) (s : State) : Type 0 where
  pub mode : Anchored
  pub built : Contains (built_modes b) mode
  pub start : Start
  pub word : List ℕ
  pub units : IsWord word
  pub leads : node_after b mode start word ≡ Running s
  pub alive : is_dead_state s ≡ false

-- the states that are reached, each once: their number is the length of such a list
pub record AreReached (b : Build) (states : List State) : Type 0 where
  pub distinct : AllPairs (λ x y. x ≢ y) states
  pub only : All (IsReached b) states
  pub all : (s : State) → IsReached b s → Contains states s
