-- What stands at a place of a list that is cut, or that grows at its end.
use Rattle.std.proofs.Common.{◌≡◌, ℕ, zero, suc, ◌<◌, ◌⊎◌, inl, inr, ⊎_elim, Some, List, [], ◌∷◌, ◌++◌, length, take}
use Rattle.std.proofs.Common.{refl, ap, arith}
use Rattle.std.specs.Prelude.{slice_get}

module _ {X : Type 0} where
  pub slice_get-take : (n : ℕ) (xs : List X) (k : ℕ) → k < n → slice_get (take n xs) k ≡ slice_get xs k
  slice_get-take zero xs k within = absurd (omega arith)
  slice_get-take (suc n) [] k within = refl
  slice_get-take (suc n) (x ∷ xs) zero within = refl
  slice_get-take (suc n) (x ∷ xs) (suc k) within = slice_get-take n xs k (omega arith)

  -- what stands in a list with one more at its end stood there before, or is that one
  pub slice_get-push : (xs : List X) (y : X) (k : ℕ) (x : X) → slice_get (xs ++ y ∷ []) k ≡ Some x
      → (slice_get xs k ≡ Some x) ⊎ ((k ≡ length xs) × (x ≡ y))
  slice_get-push [] y zero x there = inr (refl, cc)
  slice_get-push [] y (suc k) x there = absurd cc
  slice_get-push (z ∷ xs) y zero x there = inl there
  slice_get-push (z ∷ xs) y (suc k) x there =
      ⊎_elim (λ before. inl before) (λ end. inr (ap suc end.0, end.1)) (slice_get-push xs y k x there)

  pub slice_get-end : (xs : List X) (y : X) → slice_get (xs ++ y ∷ []) (length xs) ≡ Some y
  slice_get-end [] y = refl
  slice_get-end (x ∷ xs) y = slice_get-end xs y
