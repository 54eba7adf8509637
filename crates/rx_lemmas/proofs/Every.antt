-- What holds of each element of a list, by recursion on the list.
use Rattle.rx_spec.proofs.Prelude.{[], arith, ◌≡◌, List, ◌∷◌, ◌++◌, refl, ap, ap₂, ◌∙◌, common_steps, flat_map}
use Rattle.std.specs.List.{AllByRecursion as Every}

module _ {X : Type 0} where
  pub every-append : (P : X → Type 0) (xs ys : List X) → Every P xs → Every P ys → Every P (xs ++ ys)
  every-append P [] ys h k = k
  every-append P (x ∷ xs) ys h k = (h.0, every-append P xs ys h.1 k)

  pub every-weaker : (P Q : X → Type 0) (xs : List X) → ((x : X) → P x → Q x) → Every P xs → Every Q xs
  every-weaker P Q [] f h = tt
  every-weaker P Q (x ∷ xs) f h = (f x h.0, every-weaker P Q xs f h.1)

  -- a list of which each element is none is empty
  pub none_is_nil : (P : X → Type 0) (xs : List X) → ((x : X) → P x → ⊥) → Every P xs → xs ≡ []
  none_is_nil P [] f h = refl
  none_is_nil P (x ∷ xs) f h = absurd (f x h.0)

pub every-flat_map : {X A : Type 0} (P : X → Type 0) (Q : A → Type 0) (f : X → List A) (xs : List X)
    → ((x : X) → P x → Every Q (f x)) → Every P xs → Every Q (flat_map f xs)
every-flat_map P Q f [] g h = tt
every-flat_map P Q f (x ∷ xs) g h = every-append Q (f x) (flat_map f xs) (g x h.0) (every-flat_map P Q f xs g h.1)

-- two functions that agree on the elements
pub flat_map-same : {X A : Type 0} (P : X → Type 0) (f g : X → List A) (xs : List X) → ((x : X) → P x → f x ≡ g x)
    → Every P xs → flat_map f xs ≡ flat_map g xs
flat_map-same P f g [] e h = refl
flat_map-same P f g (x ∷ xs) e h = ap₂ (λ a b. a ++ b) (e x h.0) (flat_map-same P f g xs e h.1)

pub flat_map-append_of : {X A : Type 0} (f : X → List A) (xs ys : List X)
    → flat_map f (xs ++ ys) ≡ flat_map f xs ++ flat_map f ys
flat_map-append_of f [] ys = refl
flat_map-append_of f (x ∷ xs) ys = grind (arith, common_steps)

-- one behind another
pub flat_map-flat_map : {X Y A : Type 0} (f : X → List Y) (g : Y → List A) (xs : List X)
    → flat_map g (flat_map f xs) ≡ flat_map (λ x. flat_map g (f x)) xs
flat_map-flat_map f g [] = refl
flat_map-flat_map f g (x ∷ xs) =
    flat_map-append_of g (f x) (flat_map f xs) ∙ ap (λ l. flat_map g (f x) ++ l) (flat_map-flat_map f g xs)

pub flat_map-alike : {X A : Type 0} (f g : X → List A) (xs : List X) → ((x : X) → f x ≡ g x)
    → flat_map f xs ≡ flat_map g xs
flat_map-alike f g [] e = refl
flat_map-alike f g (x ∷ xs) e = ap₂ (λ a b. a ++ b) (e x) (flat_map-alike f g xs e)
