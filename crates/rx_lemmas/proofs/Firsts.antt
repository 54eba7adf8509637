-- First occurrences: they keep order and membership, and repeat nothing.
use Rattle.rx_spec.proofs.Prelude.{common_steps, [], ◌≡◌, ◌≢◌, ℕ, suc, zero, ◌==◌, ◌⊎◌, inl, inr, Bool, true, false}
use Rattle.rx_spec.proofs.Prelude.{◌||◌, List, ◌∷◌, ◌++◌, refl, ap, sym, ◌∙◌, subst, arith, ⊎_elim, or_left, eqb-true}
use Rattle.rx_spec.proofs.Prelude.{eqb-false, or_cases, false_from_ne_true, get_or_default, Contains, AllPairs}
use Rattle.rx_spec.proofs.Prelude.{list_any, fresh, or-true, list_any-append}

-- membership by recursion on the list
pub Contains-here : {X : Type 0} (x : X) (xs : List X) → Contains (x ∷ xs) x
Contains-here x xs = (0, omega arith, refl)

pub Contains-there : {X : Type 0} (y : X) (xs : List X) (x : X) → Contains xs x → Contains (y ∷ xs) x
Contains-there y xs x (k, h, e) = (suc k, omega arith, e)

pub Contains-nil : {X : Type 0} (x : X) → Contains {X = X} [] x → ⊥
Contains-nil x (k, h, e) = omega arith

pub Contains-cases : {X : Type 0} (y : X) (xs : List X) (x : X) → Contains (y ∷ xs) x → (y ≡ x) ⊎ Contains xs x
Contains-cases y xs x (zero, h, e) = inl e
Contains-cases y xs x (suc k, h, e) = inr (k, omega arith, e)

-- the test for what was seen is membership
pub seen_true : (x : ℕ) (seen : List ℕ) → list_any (λ y. x == y) seen ≡ true → Contains seen x
seen_true x [] h = absurd (cc)
seen_true x (y ∷ ys) h =
    ⊎_elim (λ (e : (x == y) ≡ true). let same : y ≡ x = sym (eqb-true x y e) in (0, omega arith, same))
    (λ (e : list_any (λ z. x == z) ys ≡ true). Contains-there y ys x (seen_true x ys e))
    (or_cases (x == y) (list_any (λ z. x == z) ys) h)

pub seen_if : (x : ℕ) (seen : List ℕ) → Contains seen x → list_any (λ y. x == y) seen ≡ true
seen_if x [] c = absurd (Contains-nil x c)
seen_if x (y ∷ ys) c = grind (arith, common_steps, or_left)

pub unseen : (x : ℕ) (seen : List ℕ) → (Contains seen x → ⊥) → list_any (λ y. x == y) seen ≡ false
unseen x seen new = false_from_ne_true (list_any (λ y. x == y) seen) (λ h. new (seen_true x seen h))

-- by what a test gives
pub by_test : {P : Type 0} (b : Bool) → (b ≡ true → P) → (b ≡ false → P) → P
by_test true yes_then no_then = yes_then refl
by_test false yes_then no_then = no_then refl

abbrev pub was : List ℕ → ℕ → Bool
was seen x = list_any (λ y. x == y) seen

pub fresh_old : (seen xs : List ℕ) (y : ℕ) → was seen y ≡ true → fresh seen (y ∷ xs) ≡ fresh seen xs
unfolding fresh
fresh_old seen xs y e = rw e refl

pub fresh_new : (seen xs : List ℕ) (y : ℕ) → was seen y ≡ false → fresh seen (y ∷ xs) ≡ y ∷ fresh (y ∷ seen) xs
unfolding fresh
fresh_new seen xs y e = rw e refl

pub fresh_nil : (seen : List ℕ) → fresh seen [] ≡ []
unfolding fresh
fresh_nil seen = refl

-- what fresh leaves is in the list
pub fresh_within : (seen xs : List ℕ) (x : ℕ) → Contains (fresh seen xs) x → Contains xs x
fresh_within seen [] x c = subst (λ l. Contains l x) (fresh_nil seen) c
fresh_within seen (y ∷ ys) x c =
    by_test (was seen y)
    (λ e. Contains-there y ys x (fresh_within seen ys x (subst (λ l. Contains l x) (fresh_old seen ys y e) c)))
    (λ e. ⊎_elim (λ (same : y ≡ x). (0, omega arith, same))
    (λ (d : Contains (fresh (y ∷ seen) ys) x). Contains-there y ys x (fresh_within (y ∷ seen) ys x d))
    (Contains-cases y (fresh (y ∷ seen) ys) x (subst (λ l. Contains l x) (fresh_new seen ys y e) c)))

-- and was not seen before
pub fresh_unseen : (seen xs : List ℕ) (x : ℕ) → Contains (fresh seen xs) x → Contains seen x → ⊥
fresh_unseen seen [] x c old = Contains-nil x (subst (λ l. Contains l x) (fresh_nil seen) c)
fresh_unseen seen (y ∷ ys) x c old =
    by_test (was seen y) (λ e. fresh_unseen seen ys x (subst (λ l. Contains l x) (fresh_old seen ys y e) c) old)
    (λ e. ⊎_elim (λ (same : y ≡ x). let h = seen_if y seen (subst (Contains seen) (sym same) old) in absurd (cc))
    (λ (d : Contains (fresh (y ∷ seen) ys) x). fresh_unseen (y ∷ seen) ys x d (Contains-there y seen x old))
    (Contains-cases y (fresh (y ∷ seen) ys) x (subst (λ l. Contains l x) (fresh_new seen ys y e) c)))

-- it leaves everything that was not seen
pub fresh_keeps : (seen xs : List ℕ) (x : ℕ) → Contains xs x → (Contains seen x → ⊥) → Contains (fresh seen xs) x
fresh_keeps seen [] x c new = absurd (Contains-nil x c)
fresh_keeps seen (y ∷ ys) x c new =
    by_test (was seen y)
    (λ e. subst (λ l. Contains l x) (sym (fresh_old seen ys y e))
    (fresh_keeps seen ys x
    (⊎_elim (λ (same : y ≡ x). absurd (new (subst (Contains seen) same (seen_true y seen e))))
    (λ (d : Contains ys x). d) (Contains-cases y ys x c)) new))
    (λ e. subst (λ l. Contains l x) (sym (fresh_new seen ys y e))
    (by_test (y == x) (λ (q : (y == x) ≡ true). let same : y ≡ x = eqb-true y x q in (0, omega arith, same))
    (λ (q : (y == x) ≡ false). let other : y ≡ x → ⊥ = eqb-false y x q in
    Contains-there y (fresh (y ∷ seen) ys) x
    (fresh_keeps (y ∷ seen) ys x
    (⊎_elim (λ (same : y ≡ x). absurd (other same)) (λ (d : Contains ys x). d) (Contains-cases y ys x c))
    (λ d. ⊎_elim other new (Contains-cases y seen x d))))))

-- no element stands twice
abbrev pub Apart : List ℕ → Type 0
Apart [] = Unit {0}
Apart (x ∷ xs) = (Contains xs x → ⊥) × Apart xs

pub Apart-fresh : (seen xs : List ℕ) → Apart (fresh seen xs)
Apart-fresh seen [] = subst Apart (sym (fresh_nil seen)) tt
Apart-fresh seen (y ∷ ys) =
    by_test (was seen y) (λ e. subst Apart (sym (fresh_old seen ys y e)) (Apart-fresh seen ys))
    (λ e. subst Apart (sym (fresh_new seen ys y e))
    ((λ c. fresh_unseen (y ∷ seen) ys y c (Contains-here y seen)), Apart-fresh (y ∷ seen) ys))

pub AllPairs-apart : (xs : List ℕ) → Apart xs → AllPairs (λ x y. x ≢ y) xs
AllPairs-apart [] a i j d h k e = omega arith
AllPairs-apart (x ∷ xs) a zero zero d h k e = omega arith
AllPairs-apart (x ∷ xs) a zero (suc j) d h k e = a.0 (j, omega arith, get_or_default xs j x d (omega arith) ∙ sym e)
AllPairs-apart (x ∷ xs) a (suc i) zero d h k e = omega arith
AllPairs-apart (x ∷ xs) a (suc i) (suc j) d h k e = AllPairs-apart xs a.1 i j d (omega arith) (omega arith) e

-- a list with no repeats, of which nothing was seen, stays as it is
pub fresh_itself : (seen xs : List ℕ) → Apart xs → ((x : ℕ) → Contains xs x → Contains seen x → ⊥) → fresh seen xs ≡ xs
fresh_itself seen [] a new = fresh_nil seen
fresh_itself seen (y ∷ ys) a new =
    fresh_new seen ys y (unseen y seen (new y (Contains-here y ys)))
    ∙ ap (λ (l : List ℕ). y ∷ l)
    (fresh_itself (y ∷ seen) ys a.1
    (λ x c d. ⊎_elim (λ (same : y ≡ x). a.0 (subst (Contains ys) (sym same) c))
    (λ (o : Contains seen x). new x (Contains-there y ys x c) o) (Contains-cases y seen x d)))

-- what was seen counts by membership alone
pub fresh_alike : (seen others xs : List ℕ) → ((x : ℕ) → was seen x ≡ was others x) → fresh seen xs ≡ fresh others xs
fresh_alike seen others [] same = fresh_nil seen ∙ sym (fresh_nil others)
fresh_alike seen others (y ∷ ys) same =
    by_test (was seen y)
    (λ e. fresh_old seen ys y e ∙ fresh_alike seen others ys same ∙ sym (fresh_old others ys y (sym (same y) ∙ e)))
    (λ e. fresh_new seen ys y e
    ∙ ap (λ (l : List ℕ). y ∷ l)
    (fresh_alike (y ∷ seen) (y ∷ others) ys (λ x. ap (λ (b : Bool). (x == y) || b) (same x)))
    ∙ sym (fresh_new others ys y (sym (same y) ∙ e)))

or_swap : (a b c : Bool) → (a || (b || c)) ≡ (b || (a || c))
or_swap true true c = refl
or_swap true false c = refl
or_swap false b c = refl

was_append : (xs ys : List ℕ) (x : ℕ) → was (xs ++ ys) x ≡ (was xs x || was ys x)
was_append xs ys x = list_any-append (λ y. x == y) xs ys

pub fresh_append : (seen xs ys : List ℕ) → fresh seen (xs ++ ys) ≡ fresh seen xs ++ fresh (xs ++ seen) ys
fresh_append seen [] ys = ap (λ (l : List ℕ). l ++ fresh seen ys) (sym (fresh_nil seen))
fresh_append seen (z ∷ zs) ys =
    by_test (was seen z)
    (λ e. fresh_old seen (zs ++ ys) z e ∙ fresh_append seen zs ys
    ∙ cc (
      ap (λ (l : List ℕ). l ++ fresh (zs ++ seen) ys) (fresh_old seen zs z e),
      fresh_alike ((z ∷ zs) ++ seen) (zs ++ seen) ys (again z zs seen e),
    ))
    (λ e. fresh_new seen (zs ++ ys) z e ∙ ap (λ (l : List ℕ). z ∷ l) (fresh_append (z ∷ seen) zs ys)
    ∙ cc (
      ap (λ (l : List ℕ). l ++ fresh (zs ++ (z ∷ seen)) ys) (fresh_new seen zs z e),
      fresh_alike ((z ∷ zs) ++ seen) (zs ++ (z ∷ seen)) ys (moved_in z zs seen),
    ))
  where
    again : (z : ℕ) (zs seen : List ℕ) → was seen z ≡ true → (x : ℕ) → was ((z ∷ zs) ++ seen) x ≡ was (zs ++ seen) x
    again z zs seen e x =
        by_test (x == z) (λ (q : (x == z) ≡ true). grind (arith, common_steps, eqb-true, was_append, or-true))
        (λ (q : (x == z) ≡ false). rw q refl)

    moved_in : (z : ℕ) (zs seen : List ℕ) → (x : ℕ) → was ((z ∷ zs) ++ seen) x ≡ was (zs ++ (z ∷ seen)) x
    moved_in z zs seen x = grind (arith, common_steps, was_append, or_swap)
