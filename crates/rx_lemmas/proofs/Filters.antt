-- The members of a list that pass a test, and of a range of numbers.
use Rattle.rx_spec.proofs.Prelude.{common_steps, ◌≡◌, ℕ, zero, suc, ◌+◌, ◌-◌, ◌<◌, ◌≤◌, Bool, true, false, List, []}
use Rattle.rx_spec.proofs.Prelude.{◌∷◌, refl, ap, sym, ◌∙◌, subst, ⊎_elim, arith, Contains, filter, cond}
use Rattle.rx_spec.proofs.Prelude.{range_with_len, IsStrictlyIncreasing, All-contains, All-filter}
use Rattle.rx_spec.proofs.Prelude.{length-range_with_len, get_or-range_with_len}
use Rattle.std.specs.List.{AllByRecursion as Every}
use Rattle.std.proofs.lemmas.List.Elements.{All-contains_itself, filter_passes}
use Rattle.rx_lemmas.proofs.Firsts.{by_test, Contains-nil, Contains-cases, Contains-here, Contains-there}

module _ {X : Type 0} (test : X → Bool) where
  pub filter_within : (xs : List X) (x : X) → Contains (filter test xs) x → Contains xs x
  filter_within xs x c =
      All-contains (Contains xs) (filter test xs) x (All-filter test (Contains xs) xs (All-contains_itself xs)) c

  pub filter_tested : (xs : List X) (x : X) → Contains (filter test xs) x → test x ≡ true
  filter_tested xs x c = All-contains (λ y. test y ≡ true) (filter test xs) x (filter_passes test xs) c

  pub filter_keeps : (xs : List X) (x : X) → Contains xs x → test x ≡ true → Contains (filter test xs) x
  filter_keeps [] x c e = absurd (Contains-nil x c)
  filter_keeps (y ∷ ys) x c e =
      by_test (test y)
      (λ kept. rw kept (⊎_elim
      (λ (same : y ≡ x). subst (λ z. Contains (z ∷ filter test ys) x) (sym same) (Contains-here x (filter test ys)))
      (λ (d : Contains ys x). Contains-there y (filter test ys) x (filter_keeps ys x d e))
      (Contains-cases y ys x c)))
      (λ left. rw left (⊎_elim
      (λ (same : y ≡ x). absurd (let f : test x ≡ false = subst (λ z. test z ≡ false) same left in cc))
      (λ (d : Contains ys x). filter_keeps ys x d e)
      (Contains-cases y ys x c)))

-- two tests that agree on a list
pub filter_alike : {X : Type 0} (p q : X → Bool) (xs : List X) → Every (λ x. p x ≡ q x) xs → filter p xs ≡ filter q xs
filter_alike p q [] same = refl
filter_alike p q (x ∷ xs) same =
    ap (λ b. cond b (x ∷ filter p xs) (filter p xs)) same.0
    ∙ ap (λ rest. cond (q x) (x ∷ rest) rest) (filter_alike p q xs same.1)

pub range_within : (a n x : ℕ) → Contains (range_with_len a n) x → (a ≤ x) × (x < a + n)
range_within a n x (k, h, e) = grind (arith, common_steps, length-range_with_len, get_or-range_with_len)

pub range_has : (a n x : ℕ) → a ≤ x → x < a + n → Contains (range_with_len a n) x
range_has a n x low high =
    let l = length-range_with_len a n in
    let place : a + (x - a) ≡ x = omega arith in
    (x - a, omega arith, get_or-range_with_len a n (x - a) x (omega arith) ∙ place)

-- what holds of each number of a range
pub every_in_range : (P : ℕ → Type 0) (a n : ℕ) → ((x : ℕ) → a ≤ x → x < a + n → P x) → Every P (range_with_len a n)
every_in_range P a zero f = tt
every_in_range P a (suc n) f = (
  f a (omega arith) (omega arith),
  every_in_range P (a + 1) n (λ x low high. f x (omega arith) (omega arith)),
)

pub range_rises : (a n : ℕ) → IsStrictlyIncreasing (range_with_len a n)
range_rises a n k h = grind (arith, common_steps, length-range_with_len, get_or-range_with_len)
