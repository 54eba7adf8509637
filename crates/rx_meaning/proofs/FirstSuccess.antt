-- The first success in a list.
use Rattle.rx_spec.proofs.Prelude.{◌≡◌, ℕ, zero, suc, ◌+◌, ◌<◌, ◌≤◌, Option, Some, None, List, [], ◌∷◌, ◌++◌, length}
use Rattle.rx_spec.proofs.Prelude.{refl, ap, ap₂, sym, ◌∙◌, arith, slice_get, option_or, option_and_then, flat_map}
use Rattle.rx_spec.proofs.Prelude.{range_with_len, first_of}
use Rattle.std.specs.Option.{option_map}
use Rattle.std.specs.List.{AllByRecursion as Every}
use Rattle.rx_lemmas.proofs.Ranges.{range_push, or_assoc, or_none}

pub map-or : {V W : Type 0} (h : V → W) (a b : Option V)
    → option_map h (option_or a b) ≡ option_or (option_map h a) (option_map h b)
map-or h None b = refl
map-or h (Some v) b = refl

module _ {A V : Type 0} where
  pub first_of-nil : (f : A → Option V) → first_of f [] ≡ None
  unfolding first_of
  first_of-nil f = refl

  pub first_of-cons : (f : A → Option V) (x : A) (xs : List A) → first_of f (x ∷ xs) ≡ option_or (f x) (first_of f xs)
  unfolding first_of
  first_of-cons f x xs = refl

  pub first_of-single : (f : A → Option V) (x : A) → first_of f (x ∷ []) ≡ f x
  unfolding first_of
  first_of-single f x = or_none (f x)

  pub first_of-append : (f : A → Option V) (xs ys : List A)
      → first_of f (xs ++ ys) ≡ option_or (first_of f xs) (first_of f ys)
  unfolding first_of
  first_of-append f [] ys = refl
  first_of-append f (x ∷ xs) ys =
      ap (option_or (f x)) (first_of-append f xs ys) ∙ sym (or_assoc (f x) (first_of f xs) (first_of f ys))

  -- two functions that agree on the elements
  pub first_of-same : (P : A → Type 0) (f g : A → Option V) (xs : List A) → ((x : A) → P x → f x ≡ g x) → Every P xs
      → first_of f xs ≡ first_of g xs
  unfolding first_of
  first_of-same P f g [] e h = refl
  first_of-same P f g (x ∷ xs) e h = ap₂ option_or (e x h.0) (first_of-same P f g xs e h.1)

  pub first_of-alike : (f g : A → Option V) (xs : List A) → ((x : A) → f x ≡ g x) → first_of f xs ≡ first_of g xs
  unfolding first_of
  first_of-alike f g [] e = refl
  first_of-alike f g (x ∷ xs) e = ap₂ option_or (e x) (first_of-alike f g xs e)

  pub first_of-none : (f : A → Option V) (xs : List A) → ((x : A) → f x ≡ None) → first_of f xs ≡ None
  unfolding first_of
  first_of-none f [] e = refl
  first_of-none f (x ∷ xs) e = ap (λ v. option_or v (first_of f xs)) (e x) ∙ first_of-none f xs e

pub first_of-flat_map : {A B V : Type 0} (f : B → Option V) (g : A → List B) (xs : List A)
    → first_of f (flat_map g xs) ≡ first_of (λ x. first_of f (g x)) xs
unfolding first_of
first_of-flat_map f g [] = refl
first_of-flat_map f g (x ∷ xs) =
    first_of-append f (g x) (flat_map g xs) ∙ ap (option_or (first_of f (g x))) (first_of-flat_map f g xs)

pub first_of-map : {A V W : Type 0} (h : V → W) (f : A → Option V) (xs : List A)
    → option_map h (first_of f xs) ≡ first_of (λ x. option_map h (f x)) xs
unfolding first_of
first_of-map h f [] = refl
first_of-map h f (x ∷ xs) = map-or h (f x) (first_of f xs) ∙ ap (option_or (option_map h (f x))) (first_of-map h f xs)

-- a range and numbers past it, at which there is nothing
pub range_longer : {V : Type 0} (f : ℕ → Option V) (a n m : ℕ)
    → ((k : ℕ) → n ≤ k → k < n + m → f (a + k) ≡ None)
    → first_of f (range_with_len a (n + m)) ≡ first_of f (range_with_len a n)
range_longer f a n zero h = let none : n + 0 ≡ n = omega arith in ap (λ k. first_of f (range_with_len a k)) none
range_longer f a n (suc m) h =
    let more : n + suc m ≡ suc (n + m) = omega arith in
    ap (λ k. first_of f (range_with_len a k)) more ∙ range_push f a (n + m)
    ∙ ap (option_or (first_of f (range_with_len a (n + m)))) (h (n + m) (omega arith) (omega arith))
    ∙ or_none (first_of f (range_with_len a (n + m))) ∙ range_longer f a n m (λ k low high. h k low (omega arith))

-- the elements of a list by their places, from a number on
places_from : {A V : Type 0} (f : A → Option V) (look : ℕ → Option A) (xs : List A) (a : ℕ)
    → ((k : ℕ) → k < length xs → look (a + k) ≡ slice_get xs k)
    → first_of f xs ≡ first_of (λ k. option_and_then f (look k)) (range_with_len a (length xs))
unfolding first_of
places_from f look [] a h = refl
places_from f look (x ∷ xs) a h =
    let here : a ≡ a + 0 = omega arith in
    ap₂ option_or (sym (ap (λ k. option_and_then f (look k)) here ∙ ap (option_and_then f) (h 0 (omega arith))))
    (places_from f look xs (a + 1)
    (λ k l. let next : a + 1 + k ≡ a + suc k = omega arith in ap look next ∙ h (suc k) (omega arith)))

pub first_of-places : {A V : Type 0} (f : A → Option V) (xs : List A)
    → first_of f xs ≡ first_of (λ k. option_and_then f (slice_get xs k)) (range_with_len 0 (length xs))
first_of-places f xs = places_from f (slice_get xs) xs 0 (λ k l. let z : 0 + k ≡ k = omega arith in ap (slice_get xs) z)
