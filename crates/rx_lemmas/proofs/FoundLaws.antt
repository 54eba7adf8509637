-- What is found: the least start, there the lowest pattern, and its first end.
use Rattle.rx_spec.proofs.Prelude.{common_steps, [], ◌≡◌, ℕ, ◌+◌, ◌-◌, ◌<◌, ◌≤◌, ⊎_elim, Bool, true, false, Option}
use Rattle.rx_spec.proofs.Prelude.{Some, None, List, ◌∷◌, Ok, Err, length, refl, sym, ◌∙◌, subst, arith, le-leb}
use Rattle.rx_spec.proofs.Prelude.{slice_get, Contains, find, nat_le, option_and_then, range_with_len, Expression, ends}
use Rattle.rx_spec.proofs.Prelude.{Query, Match, reading, admitted, first_of, end_within, candidate, found}
use Rattle.rx_spec.proofs.Prelude.{FoundMatches, and_then, Answer}
use Rattle.std.specs.Option.{option_map}
use Rattle.rx_spec.specs.declared.Direction.{Direction}
use Rattle.rx_lemmas.proofs.Firsts.{by_test, Contains-there, Contains-cases, Contains-nil}
use Rattle.rx_lemmas.proofs.Ranges.{first_in_range, none_in_range}

pub find_is : (p : ℕ → Bool) (xs : List ℕ) (x : ℕ) → find p xs ≡ Some x → Contains xs x × (p x ≡ true)
find_is p [] x e = absurd (cc)
find_is p (y ∷ ys) x e = by_test (p y)
    (λ t. grind (arith, common_steps))
    (λ f. let rest = find_is p ys x (sym (rw f refl) ∙ e) in (Contains-there y ys x rest.0, rest.1))
  where
    some_same : (a b : ℕ) → Some a ≡ Some b → a ≡ b
    some_same a b e = cc

find_some : (p : ℕ → Bool) (xs : List ℕ) (x : ℕ) → Contains xs x → p x ≡ true → (y : ℕ) × (find p xs ≡ Some y)
find_some p [] x c t = absurd (Contains-nil x c)
find_some p (y ∷ ys) x c t = by_test (p y)
    (λ s. (y, rw s refl))
    (λ f. ⊎_elim (λ (same : y ≡ x). let u : p y ≡ true = subst (λ z. p z ≡ true) (sym same) t in absurd (cc))
    (λ (d : Contains ys x). found_later (find_some p ys x d t) f) (Contains-cases y ys x c))
  where
    found_later : (z : ℕ) × (find p ys ≡ Some z) → p y ≡ false → (z : ℕ) × (find p (y ∷ ys) ≡ Some z)
    found_later (z, e) f = (z, rw f e)

-- what a match that begins at a place says
pub record Matches (es : List Expression) (t : ℕ) (q : Query) (p k : ℕ) (hit : Match) : Type 0 where
  pub is_admitted : admitted q (length es) p k ≡ true
  pub expression : Expression
  pub there : slice_get es k ≡ Some expression
  pub end : end_within (reading Direction.Forward t q.haystack) expression q.end p ≡ Some hit.end
  pub pattern : hit.pattern ≡ k
  pub start : hit.start ≡ p

abbrev ending : List Expression → ℕ → Query → ℕ → ℕ → Expression → Option Match
ending es t q p k e =
    option_map (λ j. record { pattern = k; start = p; end = j })
    (end_within (reading Direction.Forward t q.haystack) e q.end p)

candidate_in : (es : List Expression) (t : ℕ) (q : Query) (p k : ℕ) → admitted q (length es) p k ≡ true
    → candidate es t q p k ≡ option_and_then (ending es t q p k) (slice_get es k)
candidate_in es t q p k a = rw a refl

pub candidate_matches : (es : List Expression) (t : ℕ) (q : Query) (p k : ℕ) (hit : Match)
    → candidate es t q p k ≡ Some hit → Matches es t q p k hit
candidate_matches es t q p k hit e = grind (arith, common_steps)

-- where no match is a candidate, none ends within the span
module _ (es : List Expression) (t : ℕ) (q : Query) (p k : ℕ) where
  pub candidate_none : (e : Expression) (j : ℕ) → candidate es t q p k ≡ None → admitted q (length es) p k ≡ true
      → slice_get es k ≡ Some e → Contains (ends (reading Direction.Forward t q.haystack) e p) j → j ≤ q.end → ⊥
  candidate_none e j c a g m within =
      let all = ends (reading Direction.Forward t q.haystack) e p in
      let end = find_some (λ i. nat_le i q.end) all j m (le-leb j q.end within) in
      let is : candidate es t q p k ≡ Some (record { pattern = k; start = p; end = end.0 }) =
      grind (arith, common_steps, candidate_in, option_and_then) in
      some_none (record { pattern = k; start = p; end = end.0 }) (sym is ∙ c)
    where
      some_none : (hit : Match) → Some hit ≡ None → ⊥
      some_none hit e = cc

-- what is found is a match, and none begins earlier, or there with a lower pattern
pub record IsFound (es : List Expression) (t : ℕ) (q : Query) (hit : Match) : Type 0 where
  pub matches : Matches es t q hit.start hit.pattern hit
  pub low : q.start ≤ hit.start
  pub high : hit.start ≤ q.end
  pub pattern_low : hit.pattern < length es
  pub earlier : (p k : ℕ) → q.start ≤ p → p < hit.start → k < length es → candidate es t q p k ≡ None
  pub lower : (k : ℕ) → k < hit.pattern → candidate es t q hit.start k ≡ None

at_place : (es : List Expression) (t : ℕ) (q : Query) (p p' : ℕ) (k : ℕ) → p ≡ p' → candidate es t q p k ≡ None
    → candidate es t q p' k ≡ None
at_place es t q p p' k e h = subst (λ x. candidate es t q x k ≡ None) e h

pub is_found : (es : List Expression) (t : ℕ) (q : Query) (hit : Match) → found es t q ≡ Some hit → IsFound es t q hit
is_found es t q hit e =
    let n = length es in
    let f : ℕ → Option Match = λ p. first_of (λ k. candidate es t q p k) (range_with_len 0 n) in
    let outer = first_in_range f q.start (q.end + 1 - q.start) hit e in
    let p = q.start + outer.place in
    let inner = first_in_range (λ k. candidate es t q p k) 0 n hit outer.gives in
    let k = 0 + inner.place in
    let m = candidate_matches es t q p k hit inner.gives in
    let same_place : p ≡ hit.start = sym m.start in
    let same_pattern : k ≡ hit.pattern = sym m.pattern in
    record {
      matches = grind (arith, common_steps);
      low = omega arith;
      high = omega arith;
      pattern_low = omega arith;
      earlier = λ x l a b c.
          let y : q.start + (x - q.start) ≡ x = omega arith in
          let z : 0 + l ≡ l = omega arith in
          let none = none_in_range (λ i. candidate es t q (q.start + (x - q.start)) i) 0 n
          (outer.none_before (x - q.start) (omega arith)) l c in
          at_place es t q (q.start + (x - q.start)) x l y
          (subst (λ i. candidate es t q (q.start + (x - q.start)) i ≡ None) z none);
      lower = λ l b.
          let z : 0 + l ≡ l = omega arith in
          let none = inner.none_before l (omega arith) in
          at_place es t q p hit.start l same_place (subst (λ i. candidate es t q p i ≡ None) z none);
    }

-- ways to go on that are the same after what is found
pub and_then-same : (answer : Answer) (f g : Match → FoundMatches)
    → ((m : Match) → answer ≡ Ok (Some m) → f m ≡ g m) → and_then answer f ≡ and_then answer g
and_then-same (Ok None) f g same = refl
and_then-same (Ok (Some m)) f g same = grind (arith, common_steps)
and_then-same (Err error) f g same = refl
