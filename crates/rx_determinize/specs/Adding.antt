-- How a table changes when a state is added.
use Rattle.std.specs.Prelude.{ℕ, ◌≡◌, ◌<◌, ◌≤◌, ◌+◌, ◌*◌, if◌then◌else◌, true, Some, List, length, IfSome}
use Rattle.rx_spec.specs.Causes.{max_id}
use Rattle.rx_dense.specs.Builder.{with_row}
use Rattle.rx_dense.specs.Layouts.{Layout, stride}
use Rattle.rx_expr.specs.declared.build_error.BuildErrorKind.{BuildErrorKind}
use Rattle.rx_determinize.specs.WorkLists.{Interns}
use Rattle.rx_spec.specs.Builds.{IsReached}
use Rattle.rx_stepper.specs.Keys.{label_of}
use Rattle.rx_determinize.specs.declared.settled.Settled.{Settled}
use Rattle.rx_determinize.specs.Working.{Keying, Met, IsWorking, bytes_of}

-- A key of a state that is reached may be added. It spells its state's label.
pub record CanAdd (k : Keying) (settled : Settled) (met : Met) (l : Layout) (key : List ℕ) : Type 0 where
  pub working : IsWorking k settled met l
  pub one_key : (i j : List ℕ) → k.is_key i ≡ true → k.is_key j ≡ true → k.state_of i ≡ k.state_of j → i ≡ j
  pub is_key : k.is_key key ≡ true
  pub reached : IsReached k.build (k.state_of key)
  pub label : label_of key ≡ (k.state_of key).label

-- A key's state has a row: that which it had, or a new one behind all others.
pub record Adds (met : Met) (l : Layout) (key : List ℕ) (after : Met) (m : Layout) (id : ℕ) : Type 0 where
  pub place : ℕ
  pub interns : Interns met.keys key place after.keys
  pub layout : m ≡ (if interns.is_new then with_row l else l)
  pub id_is : id ≡ (place + 2) * stride l

-- no size passes its limit
pub record IsWithin (settled : Settled) (met : Met) (l : Layout) : Type 0 where
  pub patterns : met.patterns ≤ max_id
  pub table : IfSome settled.dfa_size_limit (λ limit. bytes_of l ≤ limit)
  pub construction : IfSome settled.determinize_size_limit (λ limit. met.size ≤ limit)

-- one does
abbrev pub Passes : Settled → Met → Layout → BuildErrorKind → Type 0
Passes settled met l BuildErrorKind.TooManyMatchPatternIDs = max_id < met.patterns
Passes settled met l (BuildErrorKind.DFAExceededSizeLimit limit) =
    (settled.dfa_size_limit ≡ Some limit) × (limit < bytes_of l)
Passes settled met l (BuildErrorKind.DeterminizeExceededSizeLimit limit) =
    (settled.determinize_size_limit ≡ Some limit) × (limit < met.size)
Passes settled met l _ = ⊥

-- why a table gets no further row
abbrev pub IsFull : Layout → BuildErrorKind → Type 0
IsFull l BuildErrorKind.TooManyStates = max_id < length l.words
IsFull l BuildErrorKind.Memory = Unit {0}
IsFull l _ = ⊥
