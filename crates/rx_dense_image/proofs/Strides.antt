-- Strides.
use Rattle.rx_spec.proofs.Prelude.{common_steps, ℕ, ◌^◌, ◌%◌, ◌*◌, ◌≤◌, arith, pow-le-pow_right}

pub shifted_few : (s : ℕ) → s ≤ 9 → 1 * 2 ^ s % 18446744073709551616 ≤ 512
shifted_few s h = grind (arith, common_steps, pow-le-pow_right)
