-- Steps of the states of an NFA, which are kept as lists of numbers, their keys.
use Rattle.std.specs.Prelude.{ℕ, ◌≡◌, ◌≤◌, ◌<◌, ◌^◌, All, Bool, true, false, Option, MatchOption, List, [], ◌∷◌, ◌++◌}
use Rattle.std.specs.Prelude.{length, slice_index}
use Rattle.rx_spec.specs.Bytes.{eoi}
use Rattle.rx_spec.specs.Builds.{is_dead_state}
use Rattle.rx_spec.specs.Causes.{max_id}
use Rattle.rx_spec.specs.Classes.{representatives}
use Rattle.rx_spec.specs.Nfas.{Nfa}
use Rattle.rx_spec.specs.States.{State, step}
use Rattle.rx_spec.specs.declared.MatchKind.{MatchKind}
use Rattle.rx_base.specs.ByteClasses.{ends_of}
use Rattle.rx_base.specs.FactBits.{facts_with}
use Rattle.rx_stepper.specs.Keys.{label_of}
use Rattle.rx_stepper.specs.Leads.{lead_of}
use Rattle.rx_stepper.specs.Steps.{rows_in}

pub record Stepping : Type 0 where
  pub nfa : Nfa
  pub kind : MatchKind
  -- the class of each byte; states step by the least byte of a class, and by the end mark
  pub classes : List ℕ
  -- which lists are keys, and the states that they stand for
  pub is_key : List ℕ → Bool
  pub state_of : List ℕ → State
  -- the state that is being stepped, and the number of what is known of the unit read last, where the lead-in's rows
  -- follow rows of the state's own
  pub current : State
  pub led_in : Option ℕ

-- No two keys stand for one state.
abbrev pub HasOneKeyEach : Stepping → Type 0
HasOneKeyEach s = (j k : List ℕ) → s.is_key j ≡ true → s.is_key k ≡ true → s.state_of j ≡ s.state_of k → j ≡ k

-- A key spells the label of its state, whose patterns are ids.
pub record SpellStates (s : Stepping) : Type 0 where
  pub label : (key : List ℕ) → s.is_key key ≡ true → label_of key ≡ (s.state_of key).label
  pub are_ids : (key : List ℕ) → s.is_key key ≡ true → All (λ k. k ≤ max_id) (label_of key)
  pub few : (key : List ℕ) → s.is_key key ≡ true → length (label_of key) < 2 ^ 32

-- the unit that stands for a column: the least byte of its class, and for the last column the end mark
abbrev pub unit_of : List ℕ → ℕ → ℕ
unit_of classes column = slice_index (representatives (ends_of classes) ++ eoi ∷ []) column

-- the state after the unit of a column is read
abbrev pub stepped : Stepping → ℕ → State
stepped s column = step s.nfa s.kind s.current (unit_of s.classes column)

-- the state that follows the lead-in's rows by themselves, where this is known of the unit read last
abbrev pub lone_state : Nfa → MatchKind → (classes : List ℕ) → (context column : ℕ) → State
lone_state nfa kind classes context column =
    step nfa kind (rows_in (lead_of nfa) (facts_with context)) (unit_of classes column)

-- A column leads where the lead-in's rows lead by themselves, or where none follow, to the dead state.
abbrev pub IsAlone : Stepping → ℕ → Type 0
IsAlone s column = MatchOption s.led_in (is_dead_state (stepped s column) ≡ true) (λ context.
    (context < 32) × (stepped s column ≡ lone_state s.nfa s.kind s.classes context column))

-- a key stands for a state that isn't dead
pub record IsKeyOf (s : Stepping) (key : List ℕ) (state : State) : Type 0 where
  pub is_key : s.is_key key ≡ true
  pub stands_for : s.state_of key ≡ state
  pub alive : is_dead_state state ≡ false
