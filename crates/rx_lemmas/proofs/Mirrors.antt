-- Two readings that are mirrors of one another: what matches from i to j in the one, matches backward
-- from j to i in the other.
use Rattle.rx_spec.proofs.Prelude.{common_steps, [], ◌≡◌, ℕ, suc, zero, ◌+◌, ◌-◌, ◌<◌, ◌≤◌, ◌↔◌, inl, inr, Option, Some}
use Rattle.rx_spec.proofs.Prelude.{None, List, ◌∷◌, length, reverse, refl, ap, sym, ◌∙◌, subst, arith, length-reverse}
use Rattle.rx_spec.proofs.Prelude.{slice_get-get_or, slice_get_past, Contains, slice_get, Reading, before, after}
use Rattle.rx_spec.proofs.Prelude.{holds_at, Expression, min_len, mirror, IsLoopSafe, IsBounded, ends, reading}
use Rattle.std.proofs.lemmas.List.{get_or-reverse}
use Rattle.rx_spec.specs.Looks.{holds}
use Rattle.rx_spec.specs.declared.Look.{Look}
use Rattle.rx_spec.specs.declared.Direction.{Direction}
use Rattle.rx_lemmas.proofs.Reaches.{pair, IsIn, IsIn-within, Rounds, Rounds-push, Reaches, reaches_lie}
use Rattle.rx_lemmas.proofs.Reaches.{reaches_sound, reaches_complete}

-- two readings of one haystack, one against the other
pub record Mirrored (r s : Reading) : Type 0 where
  pub lengths : length s.units ≡ length r.units
  pub bytes : (i : ℕ) → i < length r.units → after s.units (length r.units - (i + 1)) ≡ after r.units i
  pub looks : (look : Look) (i : ℕ) → i ≤ length r.units → holds_at s look (length r.units - i) ≡ holds_at r look i

pub Mirrored-sym : (r s : Reading) → Mirrored r s → Mirrored s r
Mirrored-sym r s m = record {
  lengths = sym m.lengths;
  bytes = λ i h. rw m.lengths (byte_back i h);
  looks = λ look i h. rw m.lengths (look_back look i h);
}
  where
    byte_back : (i : ℕ) → i < length s.units
        → after r.units (length r.units - (i + 1)) ≡ after s.units i
    byte_back i h = grind (arith, common_steps)

    look_back : (look : Look) (i : ℕ) → i ≤ length s.units
        → holds_at r look (length r.units - i) ≡ holds_at s look i
    look_back look i h =
        let e : length r.units - (length r.units - i) ≡ i = omega arith in
        sym (m.looks look (length r.units - i) (omega arith)) ∙ ap (holds_at s look) e

-- a list read from its other end
pub reverse_at : {X : Type 0} (xs : List X) (k : ℕ) → k < length xs
    → slice_get (reverse xs) k ≡ slice_get xs (length xs - 1 - k)
reverse_at [] k h = absurd (omega arith)
reverse_at (x ∷ xs) k h =
    let all = x ∷ xs in
    slice_get-get_or (reverse all) k x (rw length-reverse h) ∙ ap Some (get_or-reverse all k x h)
    ∙ sym (slice_get-get_or all (length all - 1 - k) x (omega arith))

pub before_is_after : (hay : List ℕ) (i : ℕ) → i ≤ length hay → after (reverse hay) (length hay - i) ≡ before hay i
before_is_after hay zero h = slice_get_past (reverse hay) (length hay - 0) (rw length-reverse (omega arith))
before_is_after hay (suc k) h = grind (arith, common_steps, reverse_at)

pub after_is_before : (hay : List ℕ) (i : ℕ) → i ≤ length hay → before (reverse hay) (length hay - i) ≡ after hay i
after_is_before hay i h = grind (arith, common_steps, reverse_at, slice_get_past)

-- an assertion between two places is the same, from whichever end it is read
pub look_mirrored : (t : ℕ) (hay : List ℕ) (look : Look) (i : ℕ) → i ≤ length hay
    → holds_at (reading Direction.Reverse t hay) look (length hay - i)
    ≡ holds_at (reading Direction.Forward t hay) look i
look_mirrored t hay look i h = rw (before_is_after hay i h, after_is_before hay i h) refl

pub Mirrored-readings : (t : ℕ) (hay : List ℕ)
    → Mirrored (reading Direction.Forward t hay) (reading Direction.Reverse t hay)
Mirrored-readings t hay = grind (arith, common_steps, reverse_at, look_mirrored)

-- the mirror's form
pub min_len-mirror : (e : Expression) → min_len (mirror e) ≡ min_len e
unfolding min_len mirror
min_len-mirror (Expression.Concat a b) = let x = min_len-mirror a in let y = min_len-mirror b in omega arith
min_len-mirror (Expression.Alternate a b) = let x = min_len-mirror a in let y = min_len-mirror b in rw (x, y) refl
min_len-mirror (Expression.Repeat least most greedy body) = let x = min_len-mirror body in rw x refl
min_len-mirror _ = refl

bounded_mirror : (least : ℕ) (most : Option ℕ) (e : Expression) → IsBounded least most e
    → IsBounded least most (mirror e)
bounded_mirror least None e h = let x = min_len-mirror e in omega arith
bounded_mirror least (Some most) e h = h

pub IsLoopSafe-mirror : (e : Expression) → IsLoopSafe e → IsLoopSafe (mirror e)
unfolding mirror
IsLoopSafe-mirror (Expression.Concat a b) h = (IsLoopSafe-mirror b h.1, IsLoopSafe-mirror a h.0)
IsLoopSafe-mirror (Expression.Alternate a b) h = (IsLoopSafe-mirror a h.0, IsLoopSafe-mirror b h.1)
IsLoopSafe-mirror (Expression.Repeat least most greedy body) h =
    (bounded_mirror least most body h.0, IsLoopSafe-mirror body h.1)
IsLoopSafe-mirror _ h = tt

pub mirror-mirror : (e : Expression) → mirror (mirror e) ≡ e
unfolding mirror
mirror-mirror (Expression.Concat a b) = let x = mirror-mirror a in let y = mirror-mirror b in rw (x, y) refl
mirror-mirror (Expression.Alternate a b) = let x = mirror-mirror a in let y = mirror-mirror b in rw (x, y) refl
mirror-mirror (Expression.Repeat least most greedy body) = let x = mirror-mirror body in rw x refl
mirror-mirror _ = refl

module _ (R S : ℕ → ℕ → Type 0) (limit : ℕ)
    (h : (i j : ℕ) → i ≤ limit → R i j → S (limit - j) (limit - i) × (j ≤ limit)) where
  rounds_turned : (n i j : ℕ) → i ≤ limit → Rounds R n i j → Rounds S n (limit - j) (limit - i)
  rounds_turned zero i j within e = ap (λ k. limit - k) (sym e)
  rounds_turned (suc n) i j within (k, a, b) =
      let first = h i k within a in
      Rounds-push S n (limit - j) (limit - k) (limit - i) (rounds_turned n k j first.1 b) first.0

-- a match, turned round
pub turned : (r s : Reading) (e : Expression) (i j : ℕ) → Mirrored r s → i ≤ length r.units → Reaches r e i j
    → Reaches s (mirror e) (length r.units - j) (length r.units - i)
unfolding mirror
turned r s Expression.Empty i j m within h = ap (λ k. length r.units - k) (sym h)
turned r s (Expression.Class set) i j m within (e, is) =
    let there = IsIn-within set r.units i is in (
      omega arith,
      subst (λ k. IsIn set (after s.units (length r.units - k))) (sym e) (subst (IsIn set) (sym (m.bytes i there)) is),
    )
turned r s (Expression.Look look) i j m within (e, holds) = grind (arith, common_steps)
turned r s (Expression.Concat a b) i j m within (k, x, y) =
    let middle = reaches_lie r a i k within x in
    (length r.units - k, turned r s b k j m middle.1 y, turned r s a i k m within x)
turned r s (Expression.Alternate a b) i j m within (inl x) = inl (turned r s a i j m within x)
turned r s (Expression.Alternate a b) i j m within (inr x) = inr (turned r s b i j m within x)
turned r s (Expression.Repeat least most greedy body) i j m within (n, low, high, x) = (
  n,
  low,
  high,
  rounds_turned (Reaches r body) (Reaches s (mirror body)) (length r.units)
      (λ k l h d. pair (turned r s body k l m h d) (reaches_lie r body k l h d).1) n i j within x,
)

-- and back
module _ (r s : Reading) where
  pub turned_back : (e : Expression) (i j : ℕ) → Mirrored r s → i ≤ length r.units → j ≤ length r.units
      → Reaches s (mirror e) (length r.units - j) (length r.units - i) → Reaches r e i j
  turned_back e i j m hi hj x =
      let n = length r.units in
      let back = turned s r (mirror e) (n - j) (n - i) (Mirrored-sym r s m) (omega arith) x in
      let ei : length s.units - (n - i) ≡ i = omega arith in
      let ej : length s.units - (n - j) ≡ j = omega arith in
      subst (λ k. Reaches r e k j) ei
      (subst (λ k. Reaches r e (length s.units - (n - i)) k) ej
      (subst (λ f. Reaches r f (length s.units - (n - i)) (length s.units - (n - j))) (mirror-mirror e) back))

-- the ends of an expression, and those of its mirror read backward
pub ends_mirrored : (t : ℕ) (hay : List ℕ) (e : Expression) (i j : ℕ) → IsLoopSafe e → i ≤ length hay → j ≤ length hay
    → Contains (ends (reading Direction.Forward t hay) e i) j
    ↔ Contains (ends (reading Direction.Reverse t hay) (mirror e) (length hay - j)) (length hay - i)
ends_mirrored t hay e i j safe hi hj =
    let r = reading Direction.Forward t hay in
    let s = reading Direction.Reverse t hay in
    let m = Mirrored-readings t hay in (
      (λ c. reaches_complete s (mirror e) (length hay - j) (length hay - i) (IsLoopSafe-mirror e safe)
          (rw length-reverse (omega arith)) (turned r s e i j m hi (reaches_sound r e i j safe c))),
      (λ c. reaches_complete r e i j safe hi
          (turned_back r s e i j m hi hj
          (reaches_sound s (mirror e) (length hay - j) (length hay - i) (IsLoopSafe-mirror e safe) c))),
    )
