-- Powerset states and their steps: the subset construction of Rabin and Scott (Finite automata and their
-- decision problems, 1959), with the order of the rows kept, as preference asks.
use Rattle.std.specs.Prelude.{ℕ, zero, suc, ◌+◌, ◌*◌, Bool, true, false, ◌==◌, if◌then◌else◌, List, [], ◌∷◌, ◌++◌}
use Rattle.std.specs.Prelude.{length, slice_get, unwrap_or}
use Rattle.std.specs.List.{flat_map, list_any}
use Rattle.rx_spec.specs.Bytes.{contains}
use Rattle.rx_spec.specs.Contexts.{Facts, no_facts, both, unit_facts, holds_read, facts_kept, start_facts}
use Rattle.rx_spec.specs.Rows.{Row}
use Rattle.rx_spec.specs.Nfas.{Nfa}
use Rattle.rx_spec.specs.declared.Look.{Look}
use Rattle.rx_spec.specs.declared.MatchKind.{MatchKind}
use Rattle.rx_spec.specs.declared.Start.{Start}

-- the row of a number; there is none past the end
abbrev pub row_at : List Row → ℕ → Row
row_at rows q = unwrap_or (slice_get rows q) Row.Fail

-- What becomes of an assertion on the way: it stands for itself, or it is passed where it holds.
pub data Passing : Type 0 where
  Standing : Passing
  Tested : (holds : Look → Bool) → Passing

-- what an assertion's row reaches, its target reaching this
abbrev pub look_reach : Passing → Look → ℕ → List ℕ → List ℕ
look_reach Standing look q target = q ∷ []
look_reach (Tested holds) look q target = if holds look then target else []

-- one step of that: on to what the given function reaches
abbrev pub reach_by : Passing → (ℕ → List ℕ) → ℕ → Row → List ℕ
reach_by pass reached q (Row.Split first second) = reached first ++ reached second
reach_by pass reached q (Row.Look look next) = look_reach pass look q (reached next)
reach_by pass reached q Row.Fail = []
reach_by pass reached q (Row.Bytes set next) = q ∷ []
reach_by pass reached q (Row.Match pattern) = q ∷ []

-- The rows that are reached from a row without reading a byte, the preferred first, in fewer than so
-- many steps.
unfoldable pub reach : List Row → Passing → ℕ → ℕ → List ℕ
reach rows pass zero q = []
reach rows pass (suc n) q = reach_by pass (λ p. reach rows pass n p) q (row_at rows q)

-- In the NFA of expressions that are safe to repeat no path that reads nothing has more steps than the
-- square of its number of rows, so nothing is cut off.
abbrev pub closure : List Row → Passing → ℕ → List ℕ
closure rows pass q = reach rows pass (length rows * length rows + 1) q

-- first occurrences only, without those seen before
unfoldable pub fresh : List ℕ → List ℕ → List ℕ
fresh seen [] = []
fresh seen (x ∷ xs) = if list_any (λ y. x == y) seen then fresh seen xs else (x ∷ fresh (x ∷ seen) xs)

abbrev pub firsts : List ℕ → List ℕ
firsts xs = fresh [] xs

-- A state: the rows that may go on, the preferred first; what is known of the unit read last; and
-- the patterns that matched before that unit.
pub record State : Type 0 where
  pub rows : List ℕ
  pub context : Facts
  pub label : List ℕ

-- nothing goes on, and nothing matched
abbrev pub dead_state : State
dead_state = record { rows = []; context = no_facts; label = [] }

abbrev pub is_look_row : Row → Bool
is_look_row (Row.Look look next) = true
is_look_row _ = false

-- the facts that are kept beside a list of rows: those that some assertion of the NFA reads, and none
-- where no row of the list is an assertion
abbrev pub context_of_rows : Nfa → List ℕ → Facts → Facts
context_of_rows nfa qs facts =
    if list_any (λ q. is_look_row (row_at nfa.rows q)) qs then both (facts_kept nfa.rows) facts else no_facts

-- a state whose rows are reached from these
abbrev pub state_at : Nfa → List ℕ → Facts → List ℕ → State
state_at nfa qs facts label =
    let rows = firsts (flat_map (λ q. closure nfa.rows Standing q) qs) in
    record { rows = rows; context = context_of_rows nfa rows facts; label = label }

-- a start state: from one start row, in one start context
abbrev pub start_state : Nfa → ℕ → Start → State
start_state nfa row start = state_at nfa (row ∷ []) (start_facts nfa.line_terminator start) []

-- whether an assertion of a state's rows holds before the next unit
abbrev pub holds_before : Nfa → ℕ → State → Look → Bool
holds_before nfa unit s look = holds_read nfa.direction look s.context (unit_facts nfa.line_terminator unit)

-- the rows of a state once its assertions are decided by the next unit
abbrev pub decided_rows : Nfa → ℕ → State → List ℕ
decided_rows nfa unit s = firsts (flat_map (λ q. closure nfa.rows (Tested (holds_before nfa unit s)) q) s.rows)

-- the patterns that rows match
abbrev pub pattern_of : Row → List ℕ
pattern_of (Row.Match pattern) = pattern ∷ []
pattern_of _ = []

abbrev pub is_match_row : Row → Bool
is_match_row (Row.Match pattern) = true
is_match_row _ = false

-- the rows up to the first match row, that one included
unfoldable pub to_first_match : List Row → List ℕ → List ℕ
to_first_match rows [] = []
to_first_match rows (q ∷ qs) = if is_match_row (row_at rows q) then q ∷ [] else (q ∷ to_first_match rows qs)

-- Leftmost-first, what is less preferred than a match is cut off, as a thread list is in Pike's virtual
-- machine.
abbrev pub cut : MatchKind → List Row → List ℕ → List ℕ
cut MatchKind.All rows qs = qs
cut MatchKind.LeftmostFirst rows qs = to_first_match rows qs

-- where a row leads that reads this unit
abbrev pub target : ℕ → Row → List ℕ
target unit (Row.Bytes set next) = if contains set unit then next ∷ [] else []
target unit _ = []

-- One step: the assertions are decided, a match is told and cuts, and the rest reads the unit. No row
-- reads the end mark.
unfoldable pub step : Nfa → MatchKind → State → ℕ → State
step nfa kind s unit =
    let rows = cut kind nfa.rows (decided_rows nfa unit s) in
    let targets = flat_map (λ q. target unit (row_at nfa.rows q)) rows in
    let label = flat_map (λ q. pattern_of (row_at nfa.rows q)) rows in
    state_at nfa targets (unit_facts nfa.line_terminator unit) label
