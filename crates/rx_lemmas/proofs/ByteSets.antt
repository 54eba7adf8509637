-- Sets of bytes as numbers.
use Rattle.rx_spec.proofs.Prelude.{◌≡◌, ℕ, arith, common_steps, contains, false}
use Rattle.std.proofs.lemmas.Nat.Bits.{bit_at-zero}

-- the empty set has no unit
pub contains-empty : (unit : ℕ) → contains 0 unit ≡ false
contains-empty unit = grind (arith, common_steps, bit_at-zero)
