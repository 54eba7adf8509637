-- The units of columns, as they are listed one after another.
use Rattle.rx_spec.proofs.Prelude.{arith, ◌≡◌, ℕ, List, [], ◌∷◌, ◌++◌, map, common_steps}
use Rattle.rx_stepper.proofs.Prelude.{Unit, unit_number}

-- one more unit
pub units_more : (units more : List Unit) (unit : Unit) (left rest : List ℕ) {all : List ℕ}
    → more ≡ units ++ unit ∷ [] → left ≡ unit_number unit ∷ rest → map unit_number units ++ left ≡ all
    → map unit_number more ++ rest ≡ all
units_more units more unit left rest pushed first so_far = grind (arith, common_steps)
