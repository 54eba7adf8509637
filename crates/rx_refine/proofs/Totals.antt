-- Sums over the numbers below a bound.
use Rattle.rx_refine.proofs.Prelude.{AreApart, List, [], arith, cases_eq, common_steps, cond, eqb, get_or, how_many}
use Rattle.rx_refine.proofs.Prelude.{how_many_below, inl, inr, length, list_any, mul-zero, ne_eqb, refl, suc}
use Rattle.rx_refine.proofs.Prelude.{suc-eq-add-one, sum_by, sum_by-cons, sym, total, true, true≢false, zero, ℕ, ◌*◌}
use Rattle.rx_refine.proofs.Prelude.{◌+◌, ◌<◌, ◌∙◌, ◌∷◌, ◌≡◌, ◌≤◌}
use Rattle.rx_refine.proofs.Places.{how_many_below_more, how_many_below-zero}
use Rattle.rx_refine.proofs.GroupedRows.{how_many_below-all}

pub total-add : (f g : ℕ → ℕ) (n : ℕ) → total (λ r. f r + g r) n ≡ total f n + total g n
total-add f g zero = refl
total-add f g (suc n) = omega (arith, total-add f g n)

pub total-le : (f g : ℕ → ℕ) (n : ℕ) → ((r : ℕ) → r < n → f r ≤ g r) → total f n ≤ total g n
total-le f g zero h = omega arith
total-le f g (suc n) h = omega (arith, total-le f g n (λ r l. h r (omega arith)))

-- where each term and what is spent beside it are at most another term
pub total-spent : (f g h : ℕ → ℕ) (n : ℕ) → ((r : ℕ) → r < n → f r + g r ≤ h r) → total f n + total g n ≤ total h n
total-spent f g h n le = omega (arith, total-add f g n, total-le (λ r. f r + g r) h n le)

pub total-same : (f g : ℕ → ℕ) (n : ℕ) → ((r : ℕ) → r < n → f r ≡ g r) → total f n ≡ total g n
total-same f g zero h = refl
total-same f g (suc n) h = omega (arith, total-same f g n (λ r l. h r (omega arith)))

pub total-const : (k n : ℕ) → total (λ _. k) n ≡ k * n
total-const k zero = sym (mul-zero k)
total-const k (suc n) = omega (arith, total-const k n)

total_zero : (n : ℕ) → total (λ _. 0) n ≡ 0
total_zero n = omega (arith, total-const 0 n)

pub total-mul : (k : ℕ) (f : ℕ → ℕ) (n : ℕ) → total (λ r. k * f r) n ≡ k * total f n
total-mul k f zero = sym (mul-zero k)
total-mul k f (suc n) = omega (arith, total-mul k f n)

pub total_none : (h : ℕ → ℕ) (x n : ℕ) → n ≤ x → total (λ r. cond (eqb r x) (h r) 0) n ≡ 0
total_none h x zero l = refl
total_none h x (suc n) l = grind (arith, common_steps, total_none h x n (omega arith))

pub total_single : (h : ℕ → ℕ) (x n : ℕ) → x < n → total (λ r. cond (eqb r x) (h r) 0) n ≡ h x
total_single h x zero l = absurd (omega arith)
total_single h x (suc n) l =
    elim (cases_eq n x) [
      | inl e ↦ grind (arith, common_steps, total_none)
      | inr ne ↦ let t : ◌≡◌ {A = ℕ} (cond (eqb n x) (h n) 0) 0 =
          rw (ne_eqb n x ne) refl in omega (arith, total_single h x n (omega arith))
    ]

-- a term is at most the sum
pub total_term : (f : ℕ → ℕ) (x n : ℕ) → x < n → f x ≤ total f n
total_term f x zero l = absurd (omega arith)
total_term f x (suc n) l =
    elim (cases_eq x n) [
      | inl e ↦ rw e (omega arith)
      | inr ne ↦ let t = total_term f x n (omega arith) in omega arith
    ]

pub total-how_many : (xs : List ℕ) (n : ℕ) → total (λ r. how_many xs r) n ≡ how_many_below xs n
total-how_many xs zero = sym (how_many_below-zero xs)
total-how_many xs (suc n) = rw (suc-eq-add-one n) (omega (arith, total-how_many xs n, how_many_below_more xs n))

-- each element of the list is below the bound
pub total-how_many-all : (xs : List ℕ) (n : ℕ) → ((k : ℕ) → k < length xs → get_or xs k 0 < n)
    → total (λ r. how_many xs r) n ≡ length xs
total-how_many-all xs n h = total-how_many xs n ∙ how_many_below-all xs n h

-- a sum over a list without repeats is one over the numbers that stand in it
AreApart-tail : (x : ℕ) (xs : List ℕ) → AreApart (x ∷ xs) → AreApart xs
AreApart-tail x xs a i j l h e = a (suc i) (suc j) (omega arith) (omega arith) e

absent : (x : ℕ) (xs : List ℕ) → ((k : ℕ) → k < length xs → x ≡ get_or xs k 0 → ⊥) → list_any (eqb x) xs ≡ true → ⊥
absent x [] h t = absurd (true≢false (sym t))
absent x (y ∷ ys) h t =
    let ne : x ≡ y → ⊥ = h 0 (omega arith) in
    absent x ys (λ k l e. h (suc k) (omega arith) e) (rw (ne_eqb x y ne) at t)

not_in_tail : (x : ℕ) (xs : List ℕ) → AreApart (x ∷ xs) → list_any (eqb x) xs ≡ true → ⊥
not_in_tail x xs a t = absent x xs (λ k l e. a 0 (suc k) (omega arith) (omega arith) e) t

-- what a row counts for, as the first or as a later element
split_in : (h : ℕ → ℕ) (x : ℕ) (xs : List ℕ) (r : ℕ) → (list_any (eqb x) xs ≡ true → ⊥)
    → cond (list_any (eqb r) (x ∷ xs)) (h r) 0 ≡ cond (eqb r x) (h r) 0 + cond (list_any (eqb r) xs) (h r) 0
split_in h x xs r ne = grind (arith, common_steps)

pub sum_by-total : (h : ℕ → ℕ) (n : ℕ) (xs : List ℕ) → AreApart xs → ((k : ℕ) → k < length xs → get_or xs k 0 < n)
    → sum_by h xs ≡ total (λ r. cond (list_any (eqb r) xs) (h r) 0) n
sum_by-total h n [] a small = sym (total_zero n)
sum_by-total h n (x ∷ xs) a small =
    let t : total (λ r. cond (list_any (eqb r) (x ∷ xs)) (h r) 0) n
    ≡ total (λ r. cond (eqb r x) (h r) 0 + cond (list_any (eqb r) xs) (h r) 0) n =
    grind (arith, common_steps, total-same, split_in, not_in_tail) in
    let u : total (λ r. cond (eqb r x) (h r) 0 + cond (list_any (eqb r) xs) (h r) 0) n
    ≡ total (λ r. cond (eqb r x) (h r) 0) n + total (λ r. cond (list_any (eqb r) xs) (h r) 0) n =
    total-add (λ r. cond (eqb r x) (h r) 0) (λ r. cond (list_any (eqb r) xs) (h r) 0) n in
    let v : total (λ r. cond (eqb r x) (h r) 0) n ≡ h x = total_single h x n (small 0 (omega arith)) in
    let w : sum_by h xs ≡ total (λ r. cond (list_any (eqb r) xs) (h r) 0) n =
    sum_by-total h n xs (AreApart-tail x xs a) (λ k l. small (suc k) (omega arith)) in
    grind (arith, common_steps, sum_by-cons)
