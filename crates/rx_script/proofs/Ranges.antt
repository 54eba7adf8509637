-- A range of bytes put into a set byte by byte.
use Rattle.rx_spec.proofs.Prelude.{◌≡◌, ◌≢◌, ℕ, ◌+◌, ◌-◌, ◌^◌, ◌<◌, ◌≤◌, ◌⊎◌, inl, inr, max, bit_or, refl, sym, ap, ◌∙◌}
use Rattle.rx_spec.proofs.Prelude.{arith, bit_at}
use Rattle.std.proofs.lemmas.Nat.Bits.{bit_at_or, same_from_bits, bit_at-pow_same, bit_at-pow_other, bit_at_mask_inside}
use Rattle.std.proofs.lemmas.Nat.Bits.{bit_at_mask_below, bit_at_mask_above}
use Rattle.std.specs.Int.Bits.{or_zero_r}

where_is : (i f k : ℕ) → f ≤ k → (i < f) ⊎ ((f ≤ i) × (i < k)) ⊎ (i ≡ k) ⊎ (k < i)
where_is i f k le = grind arith

-- one bit of a range, and of the range with a byte more
one_bit : (f k i : ℕ) → f ≤ k → max (bit_at (2 ^ k - 2 ^ f) i) (bit_at (2 ^ k) i) ≡ bit_at (2 ^ (k + 1) - 2 ^ f) i
one_bit f k i le = elim (where_is i f k le) [
  | inl below ↦
      rw (bit_at_mask_below f k i below, bit_at-pow_other k i (omega arith), bit_at_mask_below f (k + 1) i below) refl
  | inr (inl inside) ↦
      let other : i ≢ k = omega arith in
      let before : i < k + 1 = omega arith in
      let whole = bit_at_mask_inside f (k + 1) i inside.0 before in
      rw (bit_at_mask_inside f k i inside.0 inside.1, bit_at-pow_other k i other) (sym whole)
  | inr (inr (inl same)) ↦
      let from : f ≤ i = omega arith in
      let before : i < k + 1 = omega arith in
      rw (bit_at_mask_above f k i (omega arith), bit_at_mask_inside f (k + 1) i from before)
      (ap (λ (n : ℕ). max 0 (bit_at (2 ^ k) n)) same ∙ ap (max 0) (bit_at-pow_same k))
  | inr (inr (inr above)) ↦
      let whole = bit_at_mask_above f (k + 1) i (omega arith) in
      rw (bit_at_mask_above f k i (omega arith), bit_at-pow_other k i (omega arith)) (sym whole)
]

pub range_more : (set f k : ℕ) → f ≤ k → bit_or (bit_or set (2 ^ k - 2 ^ f)) (2 ^ k) ≡ bit_or set (2 ^ (k + 1) - 2 ^ f)
range_more set f k le = same_from_bits _ _ (λ i.
    let mask = bit_at (2 ^ k - 2 ^ f) i in
    let one = bit_at (2 ^ k) i in
    let regrouped : max (max (bit_at set i) mask) one ≡ max (bit_at set i) (max mask one) = omega arith in
    bit_at_or (bit_or set (2 ^ k - 2 ^ f)) (2 ^ k) i
    ∙ ap (λ (n : ℕ). max n (bit_at (2 ^ k) i)) (bit_at_or set (2 ^ k - 2 ^ f) i) ∙ regrouped
    ∙ ap (max (bit_at set i)) (one_bit f k i le) ∙ sym (bit_at_or set (2 ^ (k + 1) - 2 ^ f) i))

pub range_begun : (set f : ℕ) → set ≡ bit_or set (2 ^ f - 2 ^ f)
range_begun set f = let e : 2 ^ f - 2 ^ f ≡ 0 = omega arith in rw e (sym (or_zero_r set))
