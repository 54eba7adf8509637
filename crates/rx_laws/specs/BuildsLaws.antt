-- Laws of what is built: how many states are reached, which limits they pass, and what a table has to say of them.
use Rattle.std.specs.Prelude.{◌≡◌, ◌≢◌, ℕ, ◌<◌, ◌≤◌, ◌↔◌, List, length, Contains, AllPairs}
use Rattle.rx_spec.specs.Queries.{Anchored}
use Rattle.rx_spec.specs.Machines.{IsWord}
use Rattle.rx_spec.specs.States.{State}
use Rattle.rx_spec.specs.Builds.{Build, AreReached, built_modes, node_after, node_label}
use Rattle.rx_spec.specs.Tables.{Table, row_after}
use Rattle.rx_spec.specs.Labels.{Gives, IsLeastFor}
use Rattle.rx_spec.specs.Sizes.{determinizer_size, label_total, start_entries, build_stride, table_size, last_id}
use Rattle.rx_spec.specs.Causes.{max_id, Limits, Exceeds, HasTooManyStates, HasTooManyPatterns, sparse_length}
use Rattle.rx_spec.specs.Causes.{IsTooLarge, IsTooCostly}
use Rattle.rx_spec.specs.declared.Start.{Start}

-- two lists of all states that are reached have one length
abbrev pub ReachedCount : Type 0
ReachedCount = (b : Build) (xs ys : List State) → AreReached b xs → AreReached b ys → length xs ≡ length ys

-- A size that only grows with the states: what different states of a list measure is at most what all measure.
abbrev pub OnlyGrows : (List State → ℕ) → Type 0
OnlyGrows size = (xs ys : List State) → AllPairs (λ x y. x ≢ y) xs
    → ((s : State) → Contains xs s → Contains ys s) → size xs ≤ size ys

-- Such a size passes a limit with some of the states that are reached exactly where it does with all of them, and
-- there are any.
abbrev pub PassesWith : List State → (List State → ℕ) → ℕ → Type 0
PassesWith states size limit = (0 < length states) × (limit < size states)

abbrev pub ExceedsExactly : Type 0
ExceedsExactly = (b : Build) (size : List State → ℕ) (limit : ℕ) (states : List State) → OnlyGrows size
    → AreReached b states → Exceeds b size limit ↔ PassesWith states size limit

-- So are the causes of a build, whatever limit they stand against.
abbrev pub TooManyStatesExactly : Type 0
TooManyStatesExactly = (b : Build) (l : Limits) (states : List State) → AreReached b states
    → HasTooManyStates l b
    ↔ PassesWith states (λ reached. last_id (length reached) (build_stride b l.byte_classes)) max_id

abbrev pub TooManyPatternsExactly : Type 0
TooManyPatternsExactly = (b : Build) (states : List State) → AreReached b states
    → HasTooManyPatterns b ↔ PassesWith states label_total max_id

abbrev pub TooLongRowsExactly : Type 0
TooLongRowsExactly = (b : Build) (l : Limits) (states : List State) → AreReached b states
    → Exceeds b (sparse_length l b) max_id ↔ PassesWith states (sparse_length l b) max_id

abbrev pub TooLargeExactly : Type 0
TooLargeExactly = (b : Build) (l : Limits) (limit : ℕ) (states : List State) → AreReached b states
    → IsTooLarge l b limit
    ↔ PassesWith states
    (λ reached. table_size (length reached) (build_stride b l.byte_classes) (start_entries b)) limit

abbrev pub TooCostlyExactly : Type 0
TooCostlyExactly = (b : Build) (limit : ℕ) (states : List State) → AreReached b states
    → IsTooCostly b limit ↔ PassesWith states determinizer_size limit

-- A table gives a build where every word leads, from each start that is built, to the label of its node.
abbrev pub GivesEachWord : Type 0
GivesEachWord = (t : Table) (b : Build) → Gives t b ↔
    ((mode : Anchored) → Contains (built_modes b) mode → (start : Start) (word : List ℕ) → IsWord word
    → t.machine.label (row_after t mode start word) ≡ node_label (node_after b mode start word))

-- the least number of rows of such a table is one number
abbrev pub LeastIsOne : Type 0
LeastIsOne = (b : Build) (j k : ℕ) → IsLeastFor b j → IsLeastFor b k → j ≡ k
