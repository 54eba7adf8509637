-- What a construction carries from one state to the next, and how it goes on.
use Rattle.std.specs.Prelude.{ℕ, ◌≡◌, ◌++◌, Bool, List, [], ◌∷◌, map}
use Rattle.rx_spec.specs.Bytes.{eoi}
use Rattle.rx_spec.specs.Classes.{representatives}
use Rattle.rx_spec.specs.declared.Unit.{Unit}
use Rattle.rx_base.specs.ByteClasses.{ends_of}
use Rattle.rx_base.specs.Unit.{unit_number}
use Rattle.rx_dense.specs.Layouts.{Layout, AreRows}
use Rattle.rx_stepper.specs.Stepping.{HasOneKeyEach, SpellStates, Stepping}
use Rattle.rx_stepper.specs.Steppers.{stepping_of}
use Rattle.rx_expr.specs.declared.build_error.BuildErrorKind.{BuildErrorKind}
use Rattle.rx_determinize.specs.Begun.{classes_of}
use Rattle.rx_determinize.specs.Building.{IsStartedOver}
use Rattle.rx_determinize.specs.declared.settled.Settled.{Settled}
use Rattle.rx_determinize.specs.Working.{Keying, Met, IsOver, IsWorking, keying}
use Rattle.rx_determinize.specs.declared.construction.Construction.{Construction}

-- what steps states, the states that were met, the settings, and the units by which the table's columns step
pub record Work : Type 0 where
  pub stepping : Stepping
  pub met : Met
  pub settled : Settled
  pub units : List Unit

abbrev pub work_of : Construction → Work
work_of c = record { stepping = stepping_of c.stepper; met = c.states; settled = c.settled.now; units = c.units.items }

abbrev pub keys_in : Work → Layout → Keying
keys_in w l = keying w.stepping l

-- the units that stand for the columns of classes, as the code has them
abbrev pub AreUnits : List Unit → List ℕ → Type 0
AreUnits units classes = map unit_number units ≡ representatives (ends_of classes) ++ eoi ∷ []

-- The states that were met have rows in a table, and states are stepped by its columns: these are the classes of the
-- NFA's bytes, or one for each byte.
pub record Serves (w : Work) (l : Layout) : Type 0 where
  pub rows : AreRows l
  pub working : IsWorking (keys_in w l) w.settled w.met l
  pub byte_classes : Bool
  pub are_classes : l.classes ≡ classes_of w.stepping.nfa l.quit byte_classes
  pub classes : w.stepping.classes ≡ l.classes
  pub units : AreUnits w.units l.classes
  pub one_key : HasOneKeyEach w.stepping
  pub spells : SpellStates w.stepping

-- another state is stepped
abbrev pub IsAnother : Stepping → Stepping → Type 0
IsAnother old new = new ≡ record old { current = new.current; led_in = new.led_in }

-- more keys may follow
abbrev pub Extends : List (List ℕ) → List (List ℕ) → Type 0
Extends keys all = (more : List (List ℕ)) × (all ≡ keys ++ more)

-- only words were written
abbrev pub IsWrittenOver : Layout → Layout → Type 0
IsWrittenOver old new = new ≡ record old { words = new.words }

-- A construction went on: it steps states of the same NFA with the same settings, has every state that it had, and of
-- its table it wrote words and start entries.
pub record Continues (w : Work) (l : Layout) (v : Work) (m : Layout) : Type 0 where
  pub stepping : IsAnother w.stepping v.stepping
  pub settled : v.settled ≡ w.settled
  pub units : v.units ≡ w.units
  pub keys : Extends w.met.keys v.met.keys
  pub over : IsStartedOver l m

-- why it can't go on
abbrev pub IsRefusal : Work → Layout → BuildErrorKind → Type 0
IsRefusal w l kind = IsOver (keys_in w l) w.settled l kind
