-- Laws of contexts, states and steps.
use Rattle.std.specs.Prelude.{◌≡◌, ◌≢◌, ℕ, ◌≤◌, Bool, true, false, Option, List, [], ◌∷◌, ◌++◌, length, Contains}
use Rattle.std.specs.Prelude.{AllPairs, ◌↔◌}
use Rattle.std.specs.List.{flat_map}
use Rattle.rx_spec.specs.Bytes.{contains, eoi}
use Rattle.rx_spec.specs.Looks.{holds}
use Rattle.rx_spec.specs.Rows.{Row}
use Rattle.rx_spec.specs.Nfas.{Nfa}
use Rattle.rx_spec.specs.Contexts.{Facts, facts_of, both, holds_by, holds_read, facts_kept, start_of, start_facts}
use Rattle.rx_spec.specs.States.{row_at, Passing, closure, fresh, firsts, State, dead_state, decided_rows, pattern_of}
use Rattle.rx_spec.specs.States.{step}
use Rattle.rx_spec.specs.Shallow.{IsShallow}
use Rattle.rx_spec.specs.Builds.{Build, Node, dead, is_dead_state, next_node}
use Rattle.rx_spec.specs.declared.Direction.{Direction}
use Rattle.rx_spec.specs.declared.Look.{Look}
use Rattle.rx_spec.specs.declared.MatchKind.{MatchKind}

-- the facts of two neighbours decide every assertion
abbrev pub FactsDecide : Type 0
FactsDecide = (look : Look) (t : ℕ) (before after : Option ℕ)
    → holds look t before after ≡ holds_by look (facts_of t before) (facts_of t after)

-- Dropping the facts that no assertion of the rows reads changes nothing, of the unit read last or of
-- both, and in either direction.
abbrev pub DroppedOfLast : Type 0
DroppedOfLast = (rows : List Row) (look : Look) (next : ℕ) → Contains rows (Row.Look look next)
    → (direction : Direction) (x y : Facts)
    → holds_read direction look (both (facts_kept rows) x) y ≡ holds_read direction look x y

abbrev pub DroppedOfBoth : Type 0
DroppedOfBoth = (rows : List Row) (look : Look) (next : ℕ) → Contains rows (Row.Look look next)
    → (direction : Direction) (x y : Facts)
    → holds_read direction look (both (facts_kept rows) x) (both (facts_kept rows) y) ≡ holds_read direction look x y

-- a start context knows what is true of the byte that it stands for
abbrev pub StartKnows : Type 0
StartKnows = (t : ℕ) (byte : Option ℕ) → start_facts t (start_of t byte) ≡ facts_of t byte

-- first occurrences have the same members,
abbrev pub FirstsKeepMembers : Type 0
FirstsKeepMembers = (xs : List ℕ) (x : ℕ) → Contains (firsts xs) x ↔ Contains xs x

-- no member twice,
abbrev pub FirstsRepeatNothing : Type 0
FirstsRepeatNothing = (xs : List ℕ) → AllPairs (λ x y. x ≢ y) (firsts xs)

-- and the order: whatever is appended comes last, and only what is new in it.
abbrev pub FirstsKeepOrder : Type 0
FirstsKeepOrder = (xs ys : List ℕ) → firsts (xs ++ ys) ≡ firsts xs ++ fresh xs ys

-- a list without repeats stays as it is
abbrev pub FirstsOfDistinct : Type 0
FirstsOfDistinct = (xs : List ℕ) → AllPairs (λ x y. x ≢ y) xs → firsts xs ≡ xs

-- a step of dead is dead, and quit leads to dead
abbrev pub StepOfDead : Type 0
StepOfDead = (nfa : Nfa) (kind : MatchKind) (unit : ℕ) → step nfa kind dead_state unit ≡ dead_state

abbrev pub DeadStaysDead : Type 0
DeadStaysDead = (b : Build) (unit : ℕ) → next_node b dead unit ≡ dead

abbrev pub QuitLeadsToDead : Type 0
QuitLeadsToDead = (b : Build) (unit : ℕ) → next_node b Node.Quit unit ≡ dead

-- What a row reaches without reading a byte, by its kind: a row that reads, and a match row, itself; failure
-- nothing.
abbrev pub ClosureOfBytes : Type 0
ClosureOfBytes = (rows : List Row) (pass : Passing) (q set next : ℕ) → row_at rows q ≡ Row.Bytes set next
    → closure rows pass q ≡ q ∷ []

abbrev pub ClosureOfMatch : Type 0
ClosureOfMatch = (rows : List Row) (pass : Passing) (q pattern : ℕ) → row_at rows q ≡ Row.Match pattern
    → closure rows pass q ≡ q ∷ []

abbrev pub ClosureOfFail : Type 0
ClosureOfFail = (rows : List Row) (pass : Passing) (q : ℕ) → row_at rows q ≡ Row.Fail → closure rows pass q ≡ []

-- a Split what its first reaches, and then what its second does
abbrev pub ClosureOfSplit : Type 0
ClosureOfSplit = (rows : List Row) (pass : Passing) (q first second : ℕ) → IsShallow rows
    → row_at rows q ≡ Row.Split first second
    → closure rows pass q ≡ closure rows pass first ++ closure rows pass second

-- an assertion itself, as long as the next unit isn't known; then what its target does, or nothing
abbrev pub ClosureOfStanding : Type 0
ClosureOfStanding = (rows : List Row) (q next : ℕ) (look : Look) → row_at rows q ≡ Row.Look look next
    → closure rows Passing.Standing q ≡ q ∷ []

abbrev pub ClosureOfHolding : Type 0
ClosureOfHolding = (rows : List Row) (holds : Look → Bool) (q next : ℕ) (look : Look) → IsShallow rows
    → row_at rows q ≡ Row.Look look next → holds look ≡ true
    → closure rows (Passing.Tested holds) q ≡ closure rows (Passing.Tested holds) next

abbrev pub ClosureOfFailing : Type 0
ClosureOfFailing = (rows : List Row) (holds : Look → Bool) (q next : ℕ) (look : Look)
    → row_at rows q ≡ Row.Look look next → holds look ≡ false → closure rows (Passing.Tested holds) q ≡ []

-- A quit byte leads to quit, every other unit to the step's state.
abbrev pub QuitByteQuits : Type 0
QuitByteQuits = (b : Build) (s : State) (unit : ℕ) → is_dead_state s ≡ false → contains b.quit unit ≡ true
    → next_node b (Node.Running s) unit ≡ Node.Quit

abbrev pub OthersStep : Type 0
OthersStep = (b : Build) (s : State) (unit : ℕ) → is_dead_state s ≡ false → contains b.quit unit ≡ false
    → next_node b (Node.Running s) unit ≡ Node.Running (step b.nfa b.kind s unit)

-- nothing goes on after the end mark
abbrev pub EndMarkEnds : Type 0
EndMarkEnds = (nfa : Nfa) (kind : MatchKind) (s : State) → (step nfa kind s eoi).rows ≡ []

-- leftmost-first, one pattern is told at most; else the patterns of all match rows, in order
abbrev pub TellsOne : Type 0
TellsOne = (nfa : Nfa) (s : State) (unit : ℕ) → length (step nfa MatchKind.LeftmostFirst s unit).label ≤ 1

abbrev pub TellsAll : Type 0
TellsAll = (nfa : Nfa) (s : State) (unit : ℕ)
    → (step nfa MatchKind.All s unit).label
    ≡ flat_map (λ q. pattern_of (row_at nfa.rows q)) (decided_rows nfa unit s)
