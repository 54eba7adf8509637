-- Members of lists, as the test that computes them.
use Rattle.rx_spec.proofs.Prelude.{◌≡◌, ℕ, ◌==◌, ◌⊎◌, Bool, false, List, [], ◌∷◌, ◌++◌, sym, ⊎_elim, or_left, eq-eqb}
use Rattle.rx_spec.proofs.Prelude.{false_from_ne_true, Contains, list_any}
use Rattle.rx_stepper.proofs.Prelude.{Apart, seen_if, seen_true}
pub use Rattle.rx_lemmas.proofs.GraphSearch.{In, in_cases, in_here, in_left, in_nil, in_right, in_split, in_there}

abbrev pub was : List ℕ → ℕ → Bool
was seen x = list_any (λ y. x == y) seen

pub not_in : (xs : List ℕ) (x : ℕ) → (In xs x → ⊥) → was xs x ≡ false
not_in xs x h = false_from_ne_true (was xs x) h

-- tests that hold together
-- the last of a list whose members stand apart doesn't stand before
pub apart_last : (front : List ℕ) (x : ℕ) → Apart (front ++ x ∷ []) → In front x → ⊥
apart_last [] x a i = in_nil x i
apart_last (y ∷ ys) x a i =
    ⊎_elim
    (λ (s : x ≡ y). a.0 (seen_true y (ys ++ x ∷ []) (in_right ys (x ∷ []) y (last_is x y s))))
    (λ (o : In ys x). apart_last ys x a.1 o)
    (in_cases y x ys i)
  where
    last_is : (x y : ℕ) → x ≡ y → In (x ∷ []) y
    last_is x y s = or_left (y == x) false (eq-eqb y x (sym s))

pub apart_front : (front xs : List ℕ) → Apart (front ++ xs) → Apart front
apart_front [] xs a = tt
apart_front (y ∷ ys) xs a = ((λ c. a.0 (further y ys xs c)), apart_front ys xs a.1)
  where
    further : (y : ℕ) (ys xs : List ℕ) → Contains ys y → Contains (ys ++ xs) y
    further y ys xs c = seen_true y (ys ++ xs) (in_left ys xs y (seen_if y ys c))
