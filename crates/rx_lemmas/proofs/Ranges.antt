-- The first success among numbers in a row.
use Rattle.rx_spec.proofs.Prelude.{common_steps, ◌≡◌, ℕ, suc, zero, ◌+◌, ◌<◌, ◌⊎◌, inl, inr, ⊎_elim, Option, Some, None}
use Rattle.rx_spec.proofs.Prelude.{refl, ap, ap₂, sym, ◌∙◌, subst, arith, option_or, range_with_len, first_of}

-- f succeeds first at the i-th number from a on, of n
pub record FirstAt {V : Type 0} (f : ℕ → Option V) (a n : ℕ) (v : V) : Type 0 where
  pub place : ℕ
  pub within : place < n
  pub gives : f (a + place) ≡ Some v
  pub none_before : (k : ℕ) → k < place → f (a + k) ≡ None

-- of several, the first that is there
module _ {V : Type 0} where
  pub or_assoc : (a b c : Option V) → option_or (option_or a b) c ≡ option_or a (option_or b c)
  or_assoc None b c = refl
  or_assoc (Some v) b c = refl

  pub or_none : (a : Option V) → option_or a None ≡ a
  or_none None = refl
  or_none (Some v) = refl

module _ {V : Type 0} (f : ℕ → Option V) where
  range_nil : (a : ℕ) → first_of f (range_with_len a 0) ≡ None
  unfolding first_of
  range_nil a = refl

  range_cons : (a n : ℕ)
      → first_of f (range_with_len a (suc n)) ≡ option_or (f a) (first_of f (range_with_len (a + 1) n))
  unfolding first_of
  range_cons a n = refl

  next_place : (a k : ℕ) → a + 1 + k ≡ a + suc k
  next_place a k = omega arith

  shifted : (a k : ℕ) (v : Option V) → f (a + 1 + k) ≡ v → f (a + suc k) ≡ v
  shifted a k v e = subst (λ p. f p ≡ v) (next_place a k) e

  shifted_back : (a k : ℕ) (v : Option V) → f (a + suc k) ≡ v → f (a + 1 + k) ≡ v
  shifted_back a k v e = subst (λ p. f p ≡ v) (sym (next_place a k)) e

  here : (a : ℕ) (v : Option V) → f a ≡ v → f (a + 0) ≡ v
  here a v e = grind (arith, common_steps)

  here_back : (a : ℕ) (v : Option V) → f (a + 0) ≡ v → f a ≡ v
  here_back a v e = grind (arith, common_steps)

  or_cases_some : (o p : Option V) (v : V) → option_or o p ≡ Some v → (o ≡ Some v) ⊎ ((o ≡ None) × (p ≡ Some v))
  or_cases_some None p v e = inr (refl, e)
  or_cases_some (Some w) p v e = inl e

  or_none_both : (o p : Option V) → option_or o p ≡ None → (o ≡ None) × (p ≡ None)
  or_none_both None p e = (refl, e)
  or_none_both (Some w) p e = absurd (cc)

  pub first_in_range : (a n : ℕ) (v : V) → first_of f (range_with_len a n) ≡ Some v → FirstAt f a n v
  first_in_range a zero v e = let z = range_nil a in absurd (cc)
  first_in_range a (suc n) v e =
      ⊎_elim (λ (g : f a ≡ Some v). at_first g)
      (λ (g : (f a ≡ None) × (first_of f (range_with_len (a + 1) n) ≡ Some v)).
      later g.0 (first_in_range (a + 1) n v g.1))
      (or_cases_some (f a) (first_of f (range_with_len (a + 1) n)) v (sym (range_cons a n) ∙ e))
    where
      none_at : (a place : ℕ) → f a ≡ None → ((k : ℕ) → k < place → f (a + 1 + k) ≡ None) → (k : ℕ) → k < suc place
          → f (a + k) ≡ None
      none_at a place g h zero l = here a None g
      none_at a place g h (suc k) l = shifted a k None (h k (omega arith))

      at_first : f a ≡ Some v → FirstAt f a (suc n) v
      at_first g = grind (arith, common_steps, here)

      later : f a ≡ None → FirstAt f (a + 1) n v → FirstAt f a (suc n) v
      later g rest = record {
        place = suc rest.place;
        within = omega arith;
        gives = shifted a rest.place (Some v) rest.gives;
        none_before = none_at a rest.place g rest.none_before;
      }

  -- no success at all
  pub range_none : (a n : ℕ) → ((k : ℕ) → k < n → f (a + k) ≡ None) → first_of f (range_with_len a n) ≡ None
  range_none a zero h = range_nil a
  range_none a (suc n) h =
      range_cons a n
      ∙ ap₂ option_or (here_back a None (h 0 (omega arith)))
      (range_none (a + 1) n (λ k l. shifted_back a k None (h (suc k) (omega arith))))

  pub none_in_range : (a n : ℕ) → first_of f (range_with_len a n) ≡ None → (k : ℕ) → k < n → f (a + k) ≡ None
  none_in_range a zero e k h = absurd (omega arith)
  none_in_range a (suc n) e zero h = grind (arith, common_steps, range_cons)
  none_in_range a (suc n) e (suc k) h =
      shifted a k None
      (none_in_range (a + 1) n
      (or_none_both (f a) (first_of f (range_with_len (a + 1) n)) (sym (range_cons a n) ∙ e)).1 k (omega arith))

  pub range_first_at : (place a n : ℕ) (v : V) → place < n → f (a + place) ≡ Some v
      → ((k : ℕ) → k < place → f (a + k) ≡ None) → first_of f (range_with_len a n) ≡ Some v
  range_first_at place a zero v within g none = absurd (omega arith)
  range_first_at zero a (suc n) v within g none = grind (arith, common_steps, range_cons)
  range_first_at (suc place) a (suc n) v within g none =
      range_cons a n
      ∙ ap₂ option_or (here_back a None (none 0 (omega arith)))
      (range_first_at place (a + 1) n v (omega arith) (shifted_back a place (Some v) g)
      (λ k l. shifted_back a k None (none (suc k) (omega arith))))

  -- one number more at the end
  pub range_push : (a n : ℕ)
      → first_of f (range_with_len a (suc n)) ≡ option_or (first_of f (range_with_len a n)) (f (a + n))
  range_push a zero =
      range_cons a 0 ∙ ap (option_or (f a)) (range_nil (a + 1)) ∙ or_none (f a) ∙ sym (here a (f a) refl)
      ∙ ap (λ o. option_or o (f (a + 0))) (sym (range_nil a))
  range_push a (suc n) =
      range_cons a (suc n) ∙ ap (option_or (f a)) (range_push (a + 1) n)
      ∙ sym (or_assoc (f a) (first_of f (range_with_len (a + 1) n)) (f (a + 1 + n)))
      ∙ ap₂ option_or (sym (range_cons a n)) (ap f (next_place a n))

pub range_alike : {V : Type 0} (f g : ℕ → Option V) (a n : ℕ) → ((k : ℕ) → k < n → f (a + k) ≡ g (a + k))
    → first_of f (range_with_len a n) ≡ first_of g (range_with_len a n)
range_alike f g a zero h = range_nil f a ∙ sym (range_nil g a)
range_alike f g a (suc n) h =
    let z : a + 0 ≡ a = omega arith in
    range_cons f a n
    ∙ ap₂ option_or (subst (λ p. f p ≡ g p) z (h 0 (omega arith)))
    (range_alike f g (a + 1) n (λ k l. subst (λ p. f p ≡ g p) (sym (next_place f a k)) (h (suc k) (omega arith))))
    ∙ sym (range_cons g a n)
