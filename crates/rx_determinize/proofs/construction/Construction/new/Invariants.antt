use Rattle.rx_spec.proofs.Prelude.{◌≡◌, [], ◌∷◌, ◌++◌, map, eoi, representatives}
use Rattle.rx_determinize.proofs.Prelude.{ends_of, unit_number}
use Rattle.rx_determinize.proofs.construction.Construction.new.Given as goal

-- the units so far, and those that are left
abbrev pub invariant-loop-unit : goal.invariant-loop-unit
invariant-loop-unit l =
    map unit_number l.units.items ++ l.unit-iterator ≡ representatives (ends_of l.classes) ++ eoi ∷ []
