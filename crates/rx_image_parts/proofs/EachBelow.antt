-- Tests of each number below one, and of each of a range or a list.
use Rattle.rx_spec.proofs.Prelude.{◌≡◌, ℕ, zero, suc, ◌+◌, ◌<◌, Bool, true, false, ◌&&◌, List, [], ◌∷◌, ◌++◌, refl, sym}
use Rattle.rx_spec.proofs.Prelude.{ap, subst, ◌∙◌, arith, rules, inl, inr, list_all, range_with_len, and_parts}
use Rattle.rx_spec.proofs.Prelude.{cases_lt, and_from, and_right, and-true, length, get_or, common_steps}
use Rattle.std.proofs.lemmas.List.Folds.{list_all-append}
use Rattle.rx_image_parts.specs.Below.{each_below}

-- ---- below a number

pub below_at : (n : ℕ) (p : ℕ → Bool) (k : ℕ) → each_below n p ≡ true → k < n → p k ≡ true
below_at zero p k h lt = absurd (search rules)
below_at (suc n) p k h lt =
    let parts = and_parts (each_below n p) (p n) h in
    elim (cases_lt k n) [
      | inl early ↦ below_at n p k parts.0 early
      | inr late ↦ (let e : n ≡ k = omega arith in subst (λ (i : ℕ). p i ≡ true) e parts.1)
    ]

below_of : (n : ℕ) (p : ℕ → Bool) → ((k : ℕ) → k < n → p k ≡ true) → each_below n p ≡ true
below_of zero p h = refl
below_of (suc n) p h = and_from (each_below n p) (p n) (below_of n p (λ k lt. h k (omega arith))) (h n (omega arith))

below_not : (n : ℕ) (p : ℕ → Bool) (k : ℕ) → k < n → p k ≡ false → each_below n p ≡ false
below_not zero p k lt h = absurd (search rules)
below_not (suc n) p k lt h =
    elim (cases_lt k n) [
      | inl early ↦ ap (λ (b : Bool). b && p n) (below_not n p k early h)
      | inr late ↦ (
          and_right (each_below n p) (p n) (subst (λ (i : ℕ). p i ≡ false) (omega arith) h))
    ]

-- ---- of a range

pub range_more : (n a : ℕ) → range_with_len a (suc n) ≡ range_with_len a n ++ ((a + n) ∷ [])
range_more zero a = let e : a ≡ a + 0 = omega arith in ap (λ (x : ℕ). x ∷ []) e
range_more (suc n) a =
    ap (λ (t : List ℕ). a ∷ t) (range_more n (a + 1))
    ∙ ap (λ (x : ℕ). a ∷ (range_with_len (a + 1) n ++ (x ∷ []))) (omega arith)

pub all_below : (n : ℕ) (p : ℕ → Bool) → each_below n p ≡ list_all p (range_with_len 0 n)
all_below zero p = refl
all_below (suc n) p =
    let first : List ℕ = range_with_len 0 n in
    let last : list_all p (first ++ ((0 + n) ∷ [])) ≡ (list_all p first && p n) =
    list_all-append p first ((0 + n) ∷ [])
    ∙ ap (λ (b : Bool). list_all p first && b) (and-true (p (0 + n)) ∙ ap p (omega arith)) in
    ap (λ (b : Bool). b && p n) (all_below n p) ∙ sym (ap (list_all p) (range_more n 0) ∙ last)

pub all_of : (n : ℕ) (p : ℕ → Bool) → ((k : ℕ) → k < n → p k ≡ true) → list_all p (range_with_len 0 n) ≡ true
all_of n p h = sym (all_below n p) ∙ below_of n p h

pub not_all : (n : ℕ) (p : ℕ → Bool) (k : ℕ) → k < n → p k ≡ false → list_all p (range_with_len 0 n) ≡ false
not_all n p k lt h = sym (all_below n p) ∙ below_not n p k lt h

pub all_at : (n : ℕ) (p : ℕ → Bool) (k : ℕ) → list_all p (range_with_len 0 n) ≡ true → k < n → p k ≡ true
all_at n p k h lt = below_at n p k (all_below n p ∙ h) lt

-- ---- of a list

pub each_at : (p : ℕ → Bool) (xs : List ℕ) (k : ℕ) → list_all p xs ≡ true → k < length xs → p (get_or xs k 0) ≡ true
each_at p xs k test lt = grind (arith, common_steps)
