-- What labels say: the least number of rows is one number.
use Rattle.rx_spec.proofs.Prelude.{common_steps, ◌≡◌, ℕ, arith, Anchored, Machine}
use Rattle.rx_spec.specs.Labels.{IsLeast}

pub IsLeast-unique : {R : Type 0} {Starts : Anchored → Type 0} {m : Machine R} {j k : ℕ}
    → IsLeast Starts m j → IsLeast Starts m k → j ≡ k
IsLeast-unique {R} {Starts} {m} {j} {k} p q = grind (arith, common_steps)
