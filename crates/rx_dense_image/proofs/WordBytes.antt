-- Columns of rounds, and tests of each number below one.
use Rattle.rx_spec.proofs.Prelude.{◌≡◌, ℕ, zero, suc, ◌+◌, ◌%◌, ◌<◌, Bool, ◌&&◌, List, [], ◌∷◌, ◌++◌, length, get_or}
use Rattle.rx_spec.proofs.Prelude.{refl, ap, ◌∙◌, arith, add-one, common_steps}
use Rattle.rx_image_parts.specs.Below.{each_below}

pub below_more : (p : ℕ → Bool) (i : ℕ) → each_below (i + 1) p ≡ (each_below i p && p i)
below_more p i = rw add-one refl

-- a column of rounds, which begin at multiples of how many columns there are
pub wraps : (at k m : ℕ) → at % m ≡ 0 → k < m → (at + k) % m ≡ k
wraps at k m z lt = grind (arith, common_steps)

-- one more word of a function
pub pushed : (f : ℕ → ℕ) (xs : List ℕ) (i w : ℕ) → length xs ≡ i → ((k : ℕ) → k < i → get_or xs k 0 ≡ f k) → w ≡ f i
    → (k : ℕ) → k < i + 1 → get_or (xs ++ w ∷ []) k 0 ≡ f k
pushed f xs i w len before is k lt = grind (arith, common_steps)

-- tests that agree
pub below_cong : (n : ℕ) (p q : ℕ → Bool) → ((k : ℕ) → k < n → p k ≡ q k) → each_below n p ≡ each_below n q
below_cong zero p q same = refl
below_cong (suc n) p q same =
    ap (λ (b : Bool). b && p n) (below_cong n p q (λ k lt. same k (omega arith)))
    ∙ ap (λ (b : Bool). each_below n q && b) (same n (omega arith))

pub next_begins : (at w : ℕ) → at % w ≡ 0 → (at + w) % w ≡ 0
next_begins at w z = grind (arith, common_steps)
