-- First occurrences keep the first success.
use Rattle.rx_spec.proofs.Prelude.{arith, ◌≡◌, ℕ, Bool, true, false, ◌==◌, if◌then◌else◌, Option, None, List, [], ◌∷◌}
use Rattle.rx_spec.proofs.Prelude.{refl, common_steps, All-contains, All-from_recursion, option_or, list_any, first_of}
use Rattle.rx_spec.proofs.Prelude.{fresh, firsts}
use Rattle.std.specs.List.{AllByRecursion as Every}
use Rattle.rx_lemmas.proofs.Firsts.{seen_true}

-- After v the value o changes nothing.
abbrev Absorbed : {V : Type 0} → Option V → Option V → Type 0
Absorbed {V} v o = (w : Option V) → option_or v (option_or o w) ≡ option_or v w

-- what holds of each that was seen holds of one that was seen
seen_has : (P : ℕ → Type 0) (x : ℕ) (seen : List ℕ) → list_any (λ y. x == y) seen ≡ true → Every P seen → P x
seen_has P x seen e h = All-contains P seen x (All-from_recursion P seen h) (seen_true x seen e)

module _ {V : Type 0} (f : ℕ → Option V) where
  -- each that was seen is absorbed
  abbrev Passed : Option V → List ℕ → Type 0
  Passed v seen = Every (λ y. Absorbed v (f y)) seen

  abbrev Keeps : List ℕ → Type 0
  Keeps xs = (seen : List ℕ) (v : Option V) → Passed v seen
      → option_or v (first_of f (fresh seen xs)) ≡ option_or v (first_of f xs)

  fresh_at : (x : ℕ) (xs seen : List ℕ) (v : Option V) → Passed v seen → Keeps xs
      → (known : Bool) → list_any (λ y. x == y) seen ≡ known
      → option_or v (first_of f (if known then fresh seen xs else (x ∷ fresh (x ∷ seen) xs)))
      ≡ option_or v (option_or (f x) (first_of f xs))
  unfolding first_of
  fresh_at x xs seen v h ih true e = grind (arith, common_steps, seen_has)
  fresh_at x xs seen v h ih false e = grind (arith, common_steps)

  fresh_keeps : (xs : List ℕ) → Keeps xs
  unfolding fresh first_of
  fresh_keeps [] seen v h = refl
  fresh_keeps (x ∷ xs) seen v h = fresh_at x xs seen v h (fresh_keeps xs) (list_any (λ y. x == y) seen) refl

  pub firsts_keep : (xs : List ℕ) → first_of f (firsts xs) ≡ first_of f xs
  firsts_keep xs = fresh_keeps xs [] None tt

-- what holds of each element holds of each first occurrence
pub fresh_every : (P : ℕ → Type 0) (xs seen : List ℕ) → Every P xs → Every P (fresh seen xs)
unfolding fresh
fresh_every P [] seen h = tt
fresh_every P (x ∷ xs) seen h =
    elim (list_any (λ y. x == y) seen)
    as (λ known. Every P (if known then fresh seen xs else (x ∷ fresh (x ∷ seen) xs))) [
      | true ↦ fresh_every P xs seen h.1
      | false ↦ (h.0, fresh_every P xs (x ∷ seen) h.1)
    ]
