-- A list without the members of another, and first occurrences of joined lists.
use Rattle.rx_spec.proofs.Prelude.{common_steps, ◌≡◌, ℕ, ◌+◌, ◌==◌, Bool, true, false, List, [], ◌∷◌, ◌++◌, length}
use Rattle.rx_spec.proofs.Prelude.{refl, ap, sym, ◌∙◌, subst, arith, append-nil, ⊎_elim, ◌||◌, sum_by, or_left}
use Rattle.rx_spec.proofs.Prelude.{eqb-true, eqb-false, eq-eqb, sum_by-cons, both_ways, Contains, flat_map, fresh}
use Rattle.rx_spec.proofs.Prelude.{firsts}
use Rattle.rx_stepper.proofs.Prelude.{Apart, Contains-here, Contains-nil, Contains-there, bit, by_test}
use Rattle.rx_stepper.proofs.Prelude.{flat_map-append_of, fresh_alike, fresh_append, fresh_keeps, fresh_new, fresh_nil}
use Rattle.rx_stepper.proofs.Prelude.{fresh_old, fresh_within, led, seen_if, seen_true, without}
use Rattle.rx_stepper.proofs.Members.{In, in_cases, in_nil, was, in_here, in_there, in_left, in_right, not_in}
use Rattle.rx_lemmas.proofs.GraphSearch.{fresh_skips}

-- ---- its equations

pub without_nil : (seen : List ℕ) → without seen [] ≡ []
unfolding without
without_nil seen = refl

pub without_old : (seen xs : List ℕ) (y : ℕ) → In seen y → without seen (y ∷ xs) ≡ without seen xs
unfolding without
without_old seen xs y e = rw e refl

pub without_new : (seen xs : List ℕ) (y : ℕ) → was seen y ≡ false → without seen (y ∷ xs) ≡ y ∷ without seen xs
unfolding without
without_new seen xs y e = rw e refl

-- what is left out counts by membership alone
pub without_alike : (seen others xs : List ℕ) → ((x : ℕ) → was seen x ≡ was others x)
    → without seen xs ≡ without others xs
without_alike seen others [] same = without_nil seen ∙ sym (without_nil others)
without_alike seen others (y ∷ ys) same =
    by_test (was seen y)
    (λ e. without_old seen ys y e ∙ without_alike seen others ys same
    ∙ sym (without_old others ys y (sym (same y) ∙ e)))
    (λ e. without_new seen ys y e ∙ ap (λ (l : List ℕ). y ∷ l) (without_alike seen others ys same)
    ∙ sym (without_new others ys y (sym (same y) ∙ e)))

out_both : (xs ys : List ℕ) (x : ℕ) → was xs x ≡ false → was ys x ≡ false → was (xs ++ ys) x ≡ false
out_both xs ys x e f = grind (arith, common_steps)

pub without_append : (a b xs : List ℕ) → without (a ++ b) xs ≡ without b (without a xs)
without_append a b [] = without_nil (a ++ b) ∙ sym (ap (without b) (without_nil a) ∙ without_nil b)
without_append a b (y ∷ ys) =
    by_test (was a y)
    (λ e. without_old (a ++ b) ys y (in_left a b y e) ∙ without_append a b ys
    ∙ sym (ap (without b) (without_old a ys y e)))
    (λ e. by_test (was b y)
    (λ f. without_old (a ++ b) ys y (in_right a b y f) ∙ without_append a b ys
    ∙ sym (ap (without b) (without_new a ys y e) ∙ without_old b (without a ys) y f))
    (λ f. without_new (a ++ b) ys y (out_both a b y e f) ∙ ap (λ (l : List ℕ). y ∷ l) (without_append a b ys)
    ∙ sym (ap (without b) (without_new a ys y e) ∙ without_new b (without a ys) y f)))

pub without_join : (seen xs ys : List ℕ) → without seen (xs ++ ys) ≡ without seen xs ++ without seen ys
without_join seen [] ys = ap (λ (l : List ℕ). l ++ without seen ys) (sym (without_nil seen))
without_join seen (x ∷ xs) ys =
    by_test (was seen x)
    (λ e. without_old seen (xs ++ ys) x e ∙ without_join seen xs ys
    ∙ ap (λ (l : List ℕ). l ++ without seen ys) (sym (without_old seen xs x e)))
    (λ e. without_new seen (xs ++ ys) x e ∙ ap (λ (l : List ℕ). x ∷ l) (without_join seen xs ys)
    ∙ ap (λ (l : List ℕ). l ++ without seen ys) (sym (without_new seen xs x e)))

pub without_all : (seen xs : List ℕ) → ((x : ℕ) → In xs x → In seen x) → without seen xs ≡ []
without_all seen [] h = without_nil seen
without_all seen (x ∷ xs) h =
    without_old seen xs x (h x (in_here x xs)) ∙ without_all seen xs (λ y i. h y (in_there x y xs i))

pub without_none : (seen xs : List ℕ) → ((x : ℕ) → In xs x → In seen x → ⊥) → without seen xs ≡ xs
without_none seen [] h = without_nil seen
without_none seen (x ∷ xs) h =
    without_new seen xs x (not_in seen x (h x (in_here x xs)))
    ∙ ap (λ (l : List ℕ). x ∷ l) (without_none seen xs (λ y i. h y (in_there x y xs i)))

-- ---- its members

-- what is left was not seen
pub without_out : (seen xs : List ℕ) (x : ℕ) → In (without seen xs) x → In seen x → ⊥
without_out seen [] x i s = in_nil x (subst (λ l. In l x) (without_nil seen) i)
without_out seen (y ∷ ys) x i s =
    by_test (was seen y) (λ e. without_out seen ys x (subst (λ l. In l x) (without_old seen ys y e) i) s)
    (λ e. ⊎_elim (λ (k : x ≡ y). let t : was seen y ≡ true = subst (In seen) k s in absurd (cc))
    (λ (k : In (without seen ys) x). without_out seen ys x k s)
    (in_cases y x (without seen ys) (subst (λ l. In l x) (without_new seen ys y e) i)))

-- it was in the list
pub without_within : (seen xs : List ℕ) (y : ℕ) → In (without seen xs) y → In xs y
without_within seen [] y i = absurd (in_nil y (subst (λ l. In l y) (without_nil seen) i))
without_within seen (z ∷ zs) y i =
    by_test (was seen z)
    (λ e. in_there z y zs (without_within seen zs y (subst (λ l. In l y) (without_old seen zs z e) i)))
    (λ e. ⊎_elim (λ (s : y ≡ z). subst (λ v. In (v ∷ zs) y) s (in_here y zs))
    (λ (o : In (without seen zs) y). in_there z y zs (without_within seen zs y o))
    (in_cases z y (without seen zs) (subst (λ l. In l y) (without_new seen zs z e) i)))

-- and all that was not seen is left
pub without_keeps : (seen xs : List ℕ) (x : ℕ) → In xs x → was seen x ≡ false → In (without seen xs) x
without_keeps seen [] x i new = absurd (in_nil x i)
without_keeps seen (y ∷ ys) x i new =
    by_test (was seen y)
    (λ e. subst (λ l. In l x) (sym (without_old seen ys y e))
    (⊎_elim (λ (s : x ≡ y). let t : was seen x ≡ true = subst (In seen) (sym s) e in absurd (cc))
    (λ (o : In ys x). without_keeps seen ys x o new) (in_cases y x ys i)))
    (λ e. subst (λ l. In l x) (sym (without_new seen ys y e))
    (⊎_elim (λ (s : x ≡ y). subst (λ v. In (y ∷ without seen ys) v) (sym s) (in_here y (without seen ys)))
    (λ (o : In ys x). in_there y x (without seen ys) (without_keeps seen ys x o new)) (in_cases y x ys i)))

-- ---- first occurrences

seen_again : (y : ℕ) (seen : List ℕ) → In seen y → (x : ℕ) → was seen x ≡ was (y ∷ seen) x
seen_again y seen e x = grind (arith, common_steps)

-- where more was seen
fresh_without : (a seen xs : List ℕ) → fresh (a ++ seen) xs ≡ without seen (fresh a xs)
fresh_without a seen [] = fresh_nil (a ++ seen) ∙ sym (ap (without seen) (fresh_nil a) ∙ without_nil seen)
fresh_without a seen (y ∷ ys) =
    by_test (was a y)
    (λ e. fresh_old (a ++ seen) ys y (in_left a seen y e) ∙ fresh_without a seen ys
    ∙ sym (ap (without seen) (fresh_old a ys y e)))
    (λ e. by_test (was seen y)
    (λ s. fresh_old (a ++ seen) ys y (in_right a seen y s)
    ∙ fresh_alike (a ++ seen) ((y ∷ a) ++ seen) ys (seen_again y (a ++ seen) (in_right a seen y s))
    ∙ fresh_without (y ∷ a) seen ys ∙ sym (without_old seen (fresh (y ∷ a) ys) y s)
    ∙ sym (ap (without seen) (fresh_new a ys y e)))
    (λ s. fresh_new (a ++ seen) ys y (out_both a seen y e s)
    ∙ ap (λ (l : List ℕ). y ∷ l) (fresh_without (y ∷ a) seen ys)
    ∙ sym (without_new seen (fresh (y ∷ a) ys) y s) ∙ sym (ap (without seen) (fresh_new a ys y e))))

firsts_members : (xs : List ℕ) (x : ℕ) → was xs x ≡ was (firsts xs) x
firsts_members xs x =
    both_ways (was xs x) (was (firsts xs) x)
    (λ h. seen_if x (firsts xs) (fresh_keeps [] xs x (seen_true x xs h) (Contains-nil x)))
    (λ h. seen_if x xs (fresh_within [] xs x (seen_true x (firsts xs) h)))

-- First occurrences of joined lists: those of the one, and what those of the other add.
pub firsts_joined : (xs ys : List ℕ) → firsts (xs ++ ys) ≡ led (firsts xs) (firsts ys)
firsts_joined xs ys =
    fresh_append [] xs ys ∙ ap (λ (l : List ℕ). firsts xs ++ fresh l ys) (append-nil xs)
    ∙ ap (λ (l : List ℕ). firsts xs ++ l)
    (fresh_without [] xs ys ∙ without_alike xs (firsts xs) (firsts ys) (firsts_members xs))

-- first occurrences of what is left where more was seen
fresh_left : (out seen xs : List ℕ) → ((x : ℕ) → In seen x → In out x) → fresh out (without seen xs) ≡ fresh out xs
fresh_left out seen [] h = ap (fresh out) (without_nil seen)
fresh_left out seen (y ∷ ys) h =
    by_test (was seen y)
    (λ e. ap (fresh out) (without_old seen ys y e) ∙ fresh_left out seen ys h ∙ sym (fresh_old out ys y (h y e)))
    (λ e. ap (fresh out) (without_new seen ys y e)
    ∙ by_test (was out y)
    (λ o. fresh_old out (without seen ys) y o ∙ fresh_left out seen ys h ∙ sym (fresh_old out ys y o))
    (λ o. fresh_new out (without seen ys) y o
    ∙ ap (λ (l : List ℕ). y ∷ l) (fresh_left (y ∷ out) seen ys (λ x i. in_there y x out (h x i)))
    ∙ sym (fresh_new out ys y o)))

firsts_led : (own lead : List ℕ) → firsts (led own lead) ≡ firsts (own ++ lead)
firsts_led own lead = grind (arith, common_steps, fresh_append, fresh_left)

module _ (g : ℕ → List ℕ) where
  -- what a row gives counts where it is met first
  fresh_gives : (out seen xs : List ℕ) → ((x : ℕ) → In seen x → (z : ℕ) → In (g x) z → In out z)
      → fresh out (flat_map g (fresh seen xs)) ≡ fresh out (flat_map g xs)
  fresh_gives out seen [] h = ap (λ (l : List ℕ). fresh out (flat_map g l)) (fresh_nil seen)
  fresh_gives out seen (y ∷ ys) h =
      by_test (was seen y)
      (λ e. ap (λ (l : List ℕ). fresh out (flat_map g l)) (fresh_old seen ys y e) ∙ fresh_gives out seen ys h
      ∙ sym (fresh_skips out (g y) (flat_map g ys) (h y e)))
      (λ e. ap (λ (l : List ℕ). fresh out (flat_map g l)) (fresh_new seen ys y e)
      ∙ fresh_append out (g y) (flat_map g (fresh (y ∷ seen) ys))
      ∙ ap (λ (l : List ℕ). fresh out (g y) ++ l) (fresh_gives (g y ++ out) (y ∷ seen) ys (more y))
      ∙ sym (fresh_append out (g y) (flat_map g ys)))
    where
      more : (y x : ℕ) → In (y ∷ seen) x → (z : ℕ) → In (g x) z → In (g y ++ out) z
      more y x i z k = grind (arith, common_steps)

  -- What is closed a second time adds nothing.
  pub firsts_of_firsts : (xs : List ℕ) → firsts (flat_map g (firsts xs)) ≡ firsts (flat_map g xs)
  firsts_of_firsts xs = fresh_gives [] [] xs (λ x i z k. absurd (in_nil x i))

  -- So rows that stand in both lists may be taken twice.
  pub led_gives : (own lead : List ℕ) → firsts (flat_map g (led own lead)) ≡ firsts (flat_map g own ++ flat_map g lead)
  led_gives own lead =
      sym (firsts_of_firsts (led own lead))
      ∙ ap (λ (l : List ℕ). firsts (flat_map g l)) (firsts_led own lead)
      ∙ firsts_of_firsts (own ++ lead) ∙ ap (λ (l : List ℕ). firsts l) (flat_map-append_of g own lead)

-- ---- how many are left

apart_without : (seen xs : List ℕ) → Apart xs → Apart (without seen xs)
apart_without seen [] a = subst Apart (sym (without_nil seen)) tt
apart_without seen (y ∷ ys) a =
    by_test (was seen y) (λ e. subst Apart (sym (without_old seen ys y e)) (apart_without seen ys a.1))
    (λ e. subst Apart (sym (without_new seen ys y e))
    ((λ c. a.0 (seen_true y ys (without_within seen ys y (seen_if y (without seen ys) c)))), apart_without seen ys a.1))

-- a member's place is one place
without_one : (x : ℕ) (xs : List ℕ) → Apart xs → length (without (x ∷ []) xs) + bit (was xs x) ≡ length xs
without_one x [] a = omega (arith, ap length (without_nil (x ∷ [])))
without_one x (y ∷ ys) a =
    by_test (x == y)
    (λ (e : (x == y) ≡ true).
    let same : x ≡ y = eqb-true x y e in
    let none : without (x ∷ []) ys ≡ ys =
    without_none (x ∷ []) ys (λ z i j. a.0 (seen_true y ys (subst (In ys) (z_is x y z same j) i))) in
    let here : was (y ∷ ys) x ≡ true = or_left (x == y) (was ys x) e in
    omega (
      arith,
      ap length (without_old (x ∷ []) ys y (or_left (y == x) false (eq-eqb y x (sym same)))),
      ap length none,
      ap bit here,
    ))
    (λ (e : (x == y) ≡ false).
    let other : was (x ∷ []) y ≡ false = not_in (x ∷ []) y (apart x y (eqb-false x y e)) in
    omega (
      arith,
      ap length (without_new (x ∷ []) ys y other),
      without_one x ys a.1,
      ap bit (ap (λ (b : Bool). b || was ys x) e),
    ))
  where
    z_is : (x y z : ℕ) → x ≡ y → In (x ∷ []) z → z ≡ y
    z_is x y z same j = ⊎_elim (λ (s : z ≡ x). s ∙ same) (λ (o : In [] z). absurd (in_nil z o)) (in_cases x z [] j)

    apart : (x y : ℕ) → (x ≡ y → ⊥) → In (x ∷ []) y → ⊥
    apart x y other i = grind (arith, common_steps)

pub length_without : (own lead : List ℕ) → Apart own → Apart lead
    → length (without own lead) + sum_by (λ x. bit (was lead x)) own ≡ length lead
length_without [] lead a b = grind (arith, common_steps, without_none)
length_without (x ∷ own) lead a b =
    let less = without (x ∷ []) lead in
    let counted : sum_by (λ y. bit (was less y)) own ≡ sum_by (λ y. bit (was lead y)) own =
    counts own a.0 in
    omega (
      arith,
      ap length (without_append (x ∷ []) own lead),
      length_without own less a.1 (apart_without (x ∷ []) lead b),
      without_one x lead b,
      counted,
      sum_by-cons (λ y. bit (was lead y)) x own,
    )
  where
    one : (y : ℕ) → (y ≡ x → ⊥) → was (without (x ∷ []) lead) y ≡ was lead y
    one y other = grind (arith, common_steps, was, without_within, without_keeps)

    counts : (ys : List ℕ) → (Contains ys x → ⊥)
        → sum_by (λ y. bit (was (without (x ∷ []) lead) y)) ys ≡ sum_by (λ y. bit (was lead y)) ys
    counts [] h = refl
    counts (y ∷ ys) h =
        let same = ap bit (one y (λ e. h (subst (Contains (y ∷ ys)) e (Contains-here y ys)))) in
        omega (
          arith,
          sum_by-cons (λ z. bit (was (without (x ∷ []) lead) z)) y ys,
          sum_by-cons (λ z. bit (was lead z)) y ys,
          same,
          counts ys (λ c. h (Contains-there y ys x c)),
        )
