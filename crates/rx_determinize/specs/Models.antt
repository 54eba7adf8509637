-- Template rows, with which other rows begin as copies.
use Rattle.std.specs.Prelude.{ℕ, ◌≡◌, ◌<◌, ◌+◌, false, List, Option, Some, None, length, slice_get, slice_index_or}
use Rattle.std.specs.Prelude.{set}
use Rattle.rx_spec.specs.Bytes.{contains}
use Rattle.rx_spec.specs.States.{step}
use Rattle.rx_base.specs.ByteClasses.{alphabet_len}
use Rattle.rx_dense.specs.Layouts.{Layout}
use Rattle.rx_stepper.specs.Stepping.{Stepping, IsAlone, lone_state, unit_of}
use Rattle.rx_determinize.specs.Constructions.{Work, keys_in}
use Rattle.rx_determinize.specs.Filling.{IsEntering}
use Rattle.rx_determinize.specs.Working.{Keying, Met}

-- the row of the model of a context; where no lead-in's rows follow, the dead row
abbrev pub model_row : List (Option ℕ) → (led_in : Option ℕ) → Option ℕ
model_row models None = Some 0
model_row models (Some context) = slice_index_or models context None

abbrev pub kept_in : List (Option ℕ) → (led_in : Option ℕ) → ℕ → List (Option ℕ)
kept_in models None row = models
kept_in models (Some context) row = set models context (Some row)

-- The state of a row steps as the lead-in's rows do by themselves where this is known of the unit read last, by each
-- column that isn't a quit byte's.
pub record IsModel (k : Keying) (met : Met) (l : Layout) (context row : ℕ) : Type 0 where
  pub place : ℕ
  pub row_is : row ≡ place + 2
  pub key : List ℕ
  pub here : slice_get met.keys place ≡ Some key
  pub steps : (column : ℕ) → column < alphabet_len l.classes → contains l.quit (unit_of l.classes column) ≡ false
      → step k.build.nfa k.build.kind (k.state_of key) (unit_of l.classes column)
      ≡ lone_state k.build.nfa k.build.kind l.classes context column

-- all are, and their rows are written
abbrev pub AreModels : Keying → Met → Layout → List (Option ℕ) → (done : ℕ) → Type 0
AreModels k met l models done = (context row : ℕ) → slice_index_or models context None ≡ Some row
    → (row < done + 2) × IsModel k met l context row

-- the state that is being stepped is that of a place
pub record IsKeyAt (w : Work) (place : ℕ) : Type 0 where
  pub key : List ℕ
  pub here : slice_get w.met.keys place ≡ Some key
  pub current : w.stepping.current ≡ w.stepping.state_of key

-- a state goes on by no rows of its own
abbrev pub IsAllAlone : Stepping → Layout → Type 0
IsAllAlone s l = (column : ℕ) → column < alphabet_len l.classes → IsAlone s column

-- The start entries are set, and the rows of the first states are written, of which some are models.
pub record IsExploring (w : Work) (l : Layout) (rows : List (Option ℕ)) (done : ℕ) : Type 0 where
  pub entering : IsEntering w l (length l.starts) done
  pub models : AreModels (keys_in w l) w.met l rows done
