use Rattle.rx_spec.proofs.Prelude.{◌≡◌, ◌++◌, map}
use Rattle.rx_stepper.proofs.Prelude.{unit_number, units_of}
use Rattle.rx_stepper.proofs.columns.units_of.Given as goal

-- the units so far, and those that are left
abbrev pub invariant-loop-unit : goal.invariant-loop-unit
invariant-loop-unit l = map unit_number l.units.items ++ l.unit-iterator ≡ units_of l.classes
