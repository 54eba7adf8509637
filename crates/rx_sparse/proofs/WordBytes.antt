-- The bytes of a number, one by one.
use Rattle.rx_spec.proofs.Prelude.{◌≡◌, ℕ, ◌+◌, ◌≤◌, List, [], ◌∷◌, length, get_or, take, drop, refl, arith, drop-cons}
use Rattle.rx_spec.proofs.Prelude.{common_steps}

-- the bytes of a number of two
pub two : (xs : List ℕ) → length xs ≡ 2 → xs ≡ get_or xs 0 0 ∷ (get_or xs 1 0 ∷ [])
two [] h = absurd (omega arith)
two (x ∷ []) h = absurd (omega arith)
two (x ∷ (y ∷ [])) h = refl
two (x ∷ (y ∷ (z ∷ xs))) h = absurd (omega arith)

-- the four bytes of a word
pub four : {a b c : ℕ} (xs : List ℕ) (n : ℕ) → a ≡ n + 1 → b ≡ n + 2 → c ≡ n + 3 → n + 4 ≤ length xs
    → take 4 (drop n xs) ≡ get_or xs n 0 ∷ (get_or xs a 0 ∷ (get_or xs b 0 ∷ (get_or xs c 0 ∷ [])))
four {a} {b} {c} xs n ea eb ec long = grind (arith, common_steps, drop-cons, two)
