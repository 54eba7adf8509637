-- Different members of a list: no sum over some of them is more than the sum over all.
use Rattle.rx_spec.proofs.Prelude.{◌≡◌, ◌≢◌, ℕ, suc, ◌+◌, ◌≤◌, List, [], ◌∷◌, length, sym, ⊎_elim, arith, subst, refl}
use Rattle.rx_spec.proofs.Prelude.{Contains, AllPairs, sum_by, get_or, sum_by-cons}
use Rattle.std.specs.Prelude.{remove}
use Rattle.std.proofs.lemmas.List.Sorted.{IsPermutation-remove, Contains-permutation}
use Rattle.std.proofs.lemmas.List.Sums.{sum_by-remove}
use Rattle.rx_lemmas.proofs.Firsts.{Contains-here, Contains-there, Contains-cases}

module _ {X : Type 0} where
  -- what is different from the member at a place is left when that one is taken out
  Contains-remove : (ys : List X) (x z : X) (c : Contains ys x) → (x ≡ z → ⊥) → Contains ys z
      → Contains (remove ys c.0) z
  Contains-remove ys x z c other d =
      let moved = Contains-permutation ys (x ∷ remove ys c.0) z (IsPermutation-remove ys c.0 x c.1 (sym c.2)) d in
      ⊎_elim
      (λ (same : x ≡ z). absurd (other same))
      (λ (left : Contains (remove ys c.0) z). left)
      (Contains-cases x (remove ys c.0) z moved)

  -- the first of different elements is none of the others
  pub first_apart : (x : X) (xs : List X) → AllPairs (λ y z. y ≢ z) (x ∷ xs) → (z : X) → Contains xs z → x ≡ z → ⊥
  first_apart x xs apart z c same =
      apart 0 (suc c.0) z (omega arith) (let h = c.1 in omega arith) (let e = c.2 in same_at same e)
    where
      same_at : x ≡ z → get_or xs c.0 z ≡ z → x ≡ get_or xs c.0 z
      same_at s e = cc

  pub rest_apart : (x : X) (xs : List X) → AllPairs (λ y z. y ≢ z) (x ∷ xs) → AllPairs (λ y z. y ≢ z) xs
  rest_apart x xs apart i j d h k = apart (suc i) (suc j) d (omega arith) (omega arith)

  pub sum_by-within : (f : X → ℕ) (xs ys : List X) → AllPairs (λ x y. x ≢ y) xs
      → ((z : X) → Contains xs z → Contains ys z) → sum_by f xs ≤ sum_by f ys
  sum_by-within f [] ys apart within = omega arith
  sum_by-within f (x ∷ xs) ys apart within =
      let c = within x (Contains-here x xs) in
      let rest = remove ys c.0 in
      let e = c.2 in
      let left : sum_by f xs ≤ sum_by f rest =
      sum_by-within f xs rest (rest_apart x xs apart)
      (λ z d. Contains-remove ys x z c (first_apart x xs apart z d) (within z (Contains-there x xs z d))) in
      let all : sum_by f rest + f x ≡ sum_by f ys =
      subst (λ y. sum_by f rest + f y ≡ sum_by f ys) e (sum_by-remove f ys c.0 x c.1) in
      omega (arith, sum_by-cons f x xs)

  sum_of_ones : (xs : List X) → sum_by (λ x. 1) xs ≡ length xs
  sum_of_ones [] = refl
  sum_of_ones (x ∷ xs) = let e = sum_of_ones xs in omega (arith, sum_by-cons (λ (x : X). 1) x xs)

  -- nor are there more of them
  pub length-within : (xs ys : List X) → AllPairs (λ x y. x ≢ y) xs → ((z : X) → Contains xs z → Contains ys z)
      → length xs ≤ length ys
  length-within xs ys apart within =
      omega (arith, sum_by-within (λ (x : X). 1) xs ys apart within, sum_of_ones xs, sum_of_ones ys)
