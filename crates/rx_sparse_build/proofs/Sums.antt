-- Sums over the rows of a table, by what their states measure.
use Rattle.rx_spec.proofs.Prelude.{◌≡◌, ℕ, suc, ◌+◌, ◌*◌, ◌<◌, ◌≤◌, List, [], ◌∷◌, length, get_or, refl, arith, subst}
use Rattle.rx_spec.proofs.Prelude.{sum_by, range_with_len, sum_by-cons}

module _ {X : Type 0} (measure : X → ℕ) (d : X) (len : ℕ → ℕ) where
  -- each row has what its item measures
  pub sum_exactly : (row : ℕ) (xs : List X)
      → ((i : ℕ) → i < length xs → len (row + i) ≡ measure (get_or xs i d))
      → sum_by len (range_with_len row (length xs)) ≡ sum_by measure xs
  sum_exactly row [] each = refl
  sum_exactly row (x ∷ xs) each =
      let first : len row ≡ measure x = subst (λ r. len r ≡ measure x) (omega arith) (each 0 (omega arith)) in
      let rest = sum_exactly (row + 1) xs
      (λ i h.
      subst (λ r. len r ≡ measure (get_or xs i d)) (omega arith) (each (suc i) (omega arith))) in
      omega (
        arith,
        sum_by-cons len row (range_with_len (row + 1) (length xs)),
        sum_by-cons measure x xs,
      )

  -- each row has no more than four times that, and what is the same for all rows
  pub sum_at_most : (most row : ℕ) (xs : List X)
      → ((i : ℕ) → i < length xs → len (row + i) ≤ most + 4 * measure (get_or xs i d))
      → sum_by len (range_with_len row (length xs)) ≤ length xs * most + 4 * sum_by measure xs
  sum_at_most most row [] each = omega arith
  sum_at_most most row (x ∷ xs) each =
      let first : len row ≤ most + 4 * measure x =
      subst (λ r. len r ≤ most + 4 * measure x) (omega arith) (each 0 (omega arith)) in
      let rest : sum_by len (range_with_len (row + 1) (length xs)) ≤ length xs * most + 4 * sum_by measure xs =
      sum_at_most most (row + 1) xs
      (λ i h.
      subst (λ r. len r ≤ most + 4 * measure (get_or xs i d)) (omega arith) (each (suc i) (omega arith))) in
      let more : suc (length xs) * most ≡ most + length xs * most = omega arith in
      omega (
        arith,
        sum_by-cons len row (range_with_len (row + 1) (length xs)),
        sum_by-cons measure x xs,
      )
