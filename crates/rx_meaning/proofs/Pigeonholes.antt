-- A relation that gives each number below m a number below n, no two of them the same, shows that m is at most n.
use Rattle.rx_spec.proofs.Prelude.{◌≡◌, ℕ, suc, zero, ◌<◌, ◌≤◌, eqb, false, List, [], ◌∷◌, length, refl, subst, ⊎_elim}
use Rattle.rx_spec.proofs.Prelude.{arith, eqb-true, ne_eqb, Contains, IsDistinct}
use Rattle.std.proofs.lemmas.Map.Steps.{length-le_from_distinct_below}
use Rattle.std.proofs.lemmas.Map.Views.{Contains-from_any}
use Rattle.std.specs.List.{AllByRecursion as Every}
use Rattle.rx_lemmas.proofs.Firsts.{Contains-cases, Contains-there, Contains-nil, Contains-here}

-- the numbers given to those below k, the last one's first
record Images (P : ℕ → ℕ → Type 0) (n k : ℕ) : Type 0 where
  list : List ℕ
  len : length list ≡ k
  below : (y : ℕ) → Contains list y → (x : ℕ) × (x < k) × (y < n) × P x y
  distinct : IsDistinct eqb list

module _ (P : ℕ → ℕ → Type 0) (n m : ℕ) (one : (x z y : ℕ) → x < m → z < m → P x y → P z y → x ≡ z) where
  all_other : (ys : List ℕ) (y : ℕ) → ((z : ℕ) → Contains ys z → y ≡ z → ⊥) → Every (λ z. eqb y z ≡ false) ys
  all_other [] y h = tt
  all_other (z ∷ zs) y h =
      (ne_eqb y z (h z (Contains-here z zs)), all_other zs y (λ v c. h v (Contains-there z zs v c)))

  images : (k : ℕ) → k ≤ m → ((x : ℕ) → x < m → (y : ℕ) × (y < n) × P x y) → Images P n k
  unfolding IsDistinct
  images zero l f = record { list = []; len = refl; below = λ y c. absurd (Contains-nil y c); distinct = tt }
  images (suc k) l f =
      let rest = images k (omega arith) f in
      let own = f k (omega arith) in
      record {
        list = own.0 ∷ rest.list;
        len = let e = rest.len in omega arith;
        below = λ y c.
            ⊎_elim
            (λ (e : own.0 ≡ y). (k, omega arith, subst (λ z. z < n) e own.1, subst (P k) e own.2))
            (λ (d : Contains rest.list y). let b = rest.below y d in (b.0, omega arith, b.2, b.3))
            (Contains-cases own.0 rest.list y c);
        distinct = (
          all_other rest.list own.0 (λ z c e. (let b = rest.below z c in
              let same : k ≡ b.0 = one k b.0 z (omega arith) (omega arith) (subst (P k) e own.2) b.3 in
              omega arith)),
          rest.distinct,
        );
      }

  pub pigeons : ((x : ℕ) → x < m → (y : ℕ) × (y < n) × P x y) → m ≤ n
  pigeons f =
      let all = images m (omega arith) f in
      let short : length all.list ≤ n = length-le_from_distinct_below all.list n all.distinct
      (λ y t. (all.below y (Contains-from_any (λ a b. eqb-true a b) y all.list t)).2) in
      let e = all.len in
      omega arith
