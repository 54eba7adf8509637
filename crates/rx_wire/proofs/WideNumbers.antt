-- Numbers of 16 bytes.
use Rattle.rx_spec.proofs.Prelude.{◌≡◌, ℕ, zero, suc, ◌+◌, ◌*◌, ◌/◌, ◌%◌, ◌^◌, ◌<◌, refl, sym, ap, ◌∙◌, arith, w128}
use Rattle.rx_spec.proofs.Prelude.{common_steps}
use Rattle.std.specs.Int.{byte_at, byte_worth, sum_through}
use Rattle.std.proofs.Math.Arith.{mod-mul}
use Rattle.rx_wire.specs.declared.order.Order.{Order}
use Rattle.rx_wire.specs.Fields.{field, number}

some_power : (k : ℕ) → 0 < 256 ^ k
some_power zero = omega arith
some_power (suc k) =
    let step : 256 ^ suc k ≡ 256 * 256 ^ k = grind (arith, common_steps) in omega (arith, step, some_power k)

-- the lowest bytes of a number, each at its worth, are its remainder
lowest_bytes : (n k : ℕ) → sum_through (λ i. byte_worth i (byte_at i n)) k ≡ n % 256 ^ suc k
lowest_bytes n zero = refl
lowest_bytes n (suc k) =
    let worth : ℕ = 256 ^ suc k in
    let split : n % (256 * worth) ≡ (n / worth % 256) * worth + n % worth =
    mod-mul n {m = 256} {c = worth} (omega arith) (some_power (suc k)) in
    ap (λ (s : ℕ). s + byte_worth (suc k) (byte_at (suc k) n)) (lowest_bytes n k)
    ∙ (omega arith)
    ∙ sym split
    ∙ ap (λ (m : ℕ). n % m) (sym (grind (arith, common_steps)))

pub again128 : (order : Order) (n : ℕ) → n < 2 ^ 128 → number order w128 (field order w128 n) ≡ n
again128 Order.Little n h = let whole : n % 256 ^ 16 ≡ n = omega (arith, h) in lowest_bytes n 15 ∙ whole
again128 Order.Big n h = grind (arith, common_steps, lowest_bytes)
