-- The lowest of some patterns, one more at a time.
use Rattle.rx_spec.proofs.Prelude.{common_steps, ◌≡◌, ℕ, zero, suc, ◌+◌, ◌<◌, ◌≤◌, List, [], ◌∷◌, ◌++◌, length, take}
use Rattle.rx_spec.proofs.Prelude.{refl, ap, sym, ◌∙◌, subst, arith, Contains-append_right, slice_index}
use Rattle.rx_lemmas.proofs.Firsts.{Contains-here}
use Rattle.rx_scan.specs.Walks.{IsLowest}

one : (k : ℕ) → IsLowest (k ∷ []) k
one k = grind (arith, common_steps)

pub lowest_first : (ks : List ℕ) → 0 < length ks → IsLowest (take 1 ks) (slice_index ks 0)
lowest_first [] h = absurd (omega arith)
lowest_first (k ∷ ks) h = one k

-- ---- one pattern more

push_lower : (ks : List ℕ) (k j : ℕ) → IsLowest ks k → j ≤ k → IsLowest (ks ++ j ∷ []) j
push_lower ks k j is h = record {
  there = Contains-append_right ks (j ∷ []) j (Contains-here j []);
  least = grind (arith, common_steps);
}

more : (ks : List ℕ) (i : ℕ) → i < length ks → take (i + 1) ks ≡ take i ks ++ slice_index ks i ∷ []
more [] i h = absurd (omega arith)
more (k ∷ ks) zero h = refl
more (k ∷ ks) (suc i) h =
    let e : suc i + 1 ≡ suc (i + 1) = omega arith in
    ap (λ (n : ℕ). take n (k ∷ ks)) e ∙ ap (λ (l : List ℕ). k ∷ l) (more ks i (omega arith))

module _ (ks : List ℕ) (i k : ℕ) (within : i < length ks) (is : IsLowest (take i ks) k) where
  pub lowest_lower : slice_index ks i < k → IsLowest (take (i + 1) ks) (slice_index ks i)
  lowest_lower h =
      subst (λ (l : List ℕ). IsLowest l (slice_index ks i)) (sym (more ks i within))
      (push_lower (take i ks) k (slice_index ks i) is (omega arith))

  pub lowest_same : k ≤ slice_index ks i → IsLowest (take (i + 1) ks) k
  lowest_same h = grind (arith, common_steps)
