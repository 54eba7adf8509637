-- The test of words without a branch, collected word by word.
use Rattle.rx_spec.proofs.Prelude.{common_steps, ◌≡◌, ℕ, zero, suc, ◌%◌, ◌^◌, max, ◌&&◌, leb, eqb, bit_or, refl, ap}
use Rattle.rx_spec.proofs.Prelude.{◌∙◌, arith}
use Rattle.std.proofs.lemmas.Nat.{le_or_l, or_mod}
use Rattle.rx_dense_image.specs.Bulk.{all_bits, may_stand}

-- an or is 0 exactly where both are
or_none : (a b : ℕ) → eqb (bit_or a b) 0 ≡ (eqb a 0 && eqb b 0)
or_none zero zero = refl
or_none zero (suc b) = grind arith
or_none (suc a) b = grind (arith, le_or_l (suc a) b)

-- the low bits of both are clear exactly where those of their or are
or_whole : (s a b : ℕ) → eqb (bit_or a b % 2 ^ s) 0 ≡ (eqb (a % 2 ^ s) 0 && eqb (b % 2 ^ s) 0)
or_whole s a b = ap (λ (n : ℕ). eqb n 0) (or_mod a b s) ∙ or_none (a % 2 ^ s) (b % 2 ^ s)

pub one_more_word : (s last forbidden low greatest met x : ℕ)
    → (((eqb (bit_or low x % 2 ^ s) 0) && leb (max greatest x) last)
    && eqb (bit_or met (all_bits (eqb x forbidden))) 0)
    ≡ ((((eqb (low % 2 ^ s) 0) && leb greatest last) && eqb met 0) && may_stand (2 ^ s) last forbidden x)
one_more_word s last forbidden low greatest met x = grind (arith, common_steps, bit_or, or_whole, or_none)
