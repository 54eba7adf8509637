-- Laws of the places where matches end.
use Rattle.rx_spec.proofs.Prelude.{common_steps, [], ◌≡◌, ℕ, zero, suc, ◌+◌, ◌-◌, ◌*◌, ◌<◌, ◌≤◌, min, Bool, true, false}
use Rattle.rx_spec.proofs.Prelude.{Option, Some, None, List, ◌∷◌, ◌++◌, length, slice_get, if◌then◌else◌, refl, ap, sym}
use Rattle.rx_spec.proofs.Prelude.{◌∙◌, arith, le_refl, append-nil, slice_get_within, flat_map, Reading, after}
use Rattle.rx_spec.proofs.Prelude.{holds_at, Expression, min_len, class_ends, rounds, preferring, up_to, further, ends}
use Rattle.std.specs.List.{AllByRecursion as Every}
use Rattle.rx_spec.specs.declared.Look.{Look}
use Rattle.rx_lemmas.proofs.Every.{every-append, every-weaker, every-flat_map, flat_map-same, none_is_nil}
use Rattle.rx_lemmas.proofs.Every.{flat_map-flat_map}

-- The table of ends, line by line.
pub ends_empty : (r : Reading) (i : ℕ) → ends r Expression.Empty i ≡ i ∷ []
unfolding ends
ends_empty r i = refl

pub ends_class : (r : Reading) (set i : ℕ) → ends r (Expression.Class set) i ≡ class_ends set (after r.units i) i
unfolding ends
ends_class r set i = refl

pub ends_assert : (r : Reading) (look : Look) (i : ℕ)
    → ends r (Expression.Look look) i ≡ (if holds_at r look i then i ∷ [] else [])
unfolding ends
ends_assert r look i = refl

pub ends_concat : (r : Reading) (a b : Expression) (i : ℕ)
    → ends r (Expression.Concat a b) i ≡ flat_map (λ j. ends r b j) (ends r a i)
unfolding ends
ends_concat r a b i = refl

pub ends_alternate : (r : Reading) (a b : Expression) (i : ℕ)
    → ends r (Expression.Alternate a b) i ≡ ends r a i ++ ends r b i
unfolding ends
ends_alternate r a b i = refl

-- Lies n low j: the place j lies between low and n.
abbrev pub Lies : ℕ → ℕ → ℕ → Type 0
Lies n low j = (low ≤ j) × (j ≤ n)

-- A body whose ends lie at least m past their beginning.
abbrev pub Advances : ℕ → ℕ → (ℕ → List ℕ) → Type 0
Advances n m body = (i : ℕ) → i ≤ n → Every (Lies n (i + m)) (body i)

lies-from : (n low high : ℕ) (xs : List ℕ) → low ≤ high → Every (Lies n high) xs → Every (Lies n low) xs
lies-from n low high xs h every = grind (arith, common_steps, every-weaker)

pub rounds_lie : (n m : ℕ) (body : ℕ → List ℕ) → Advances n m body → (k : ℕ) → Advances n (k * m) (rounds body k)
unfolding rounds
rounds_lie n m body h zero i within = ((omega arith, within), tt)
rounds_lie n m body h (suc k) i within =
    every-flat_map (Lies n (i + m)) (Lies n (i + suc k * m)) (λ j. rounds body k j) (body i)
    (λ j lies. lies-from n (i + suc k * m) (j + k * m) (rounds body k j) (omega arith)
    (rounds_lie n m body h k j lies.1))
    (h i within)

preferring_lies : (n i : ℕ) (greedy : Bool) (more : List ℕ) → i ≤ n → Every (Lies n i) more
    → Every (Lies n i) (preferring greedy more i)
preferring_lies n i true more within h = every-append (Lies n i) more (i ∷ []) h ((le_refl i, within), tt)
preferring_lies n i false more within h = ((le_refl i, within), h)

pub up_to_lies : (n : ℕ) (greedy : Bool) (body : ℕ → List ℕ) → Advances n 0 body → (k i : ℕ) → i ≤ n
    → Every (Lies n i) (up_to greedy body k i)
unfolding up_to
up_to_lies n greedy body h zero i within = ((le_refl i, within), tt)
up_to_lies n greedy body h (suc k) i within =
    preferring_lies n i greedy (flat_map (λ j. up_to greedy body k j) (body i)) within
    (every-flat_map (Lies n (i + 0)) (Lies n i) (λ j. up_to greedy body k j) (body i)
    (λ j lies. lies-from n i j (up_to greedy body k j) (omega arith) (up_to_lies n greedy body h k j lies.1))
    (h i within))

further_lies : (r : Reading) (least : ℕ) (most : Option ℕ) (greedy : Bool) (body : ℕ → List ℕ)
    → Advances (length r.units) 0 body → (i : ℕ) → i ≤ length r.units
    → Every (Lies (length r.units) i) (further r least most greedy body i)
further_lies r least None greedy body h i within = grind (arith, common_steps, up_to_lies)
further_lies r least (Some most) greedy body h i within = grind (arith, common_steps, up_to_lies)

weaker_advance : (n m : ℕ) (body : ℕ → List ℕ) → Advances n m body → Advances n 0 body
weaker_advance n m body h i within = lies-from n (i + 0) (i + m) (body i) (omega arith) (h i within)

class_lies : (set : ℕ) (units : List ℕ) (i : ℕ) (byte : Option ℕ) → slice_get units i ≡ byte
    → Every (Lies (length units) (i + 1)) (class_ends set byte i)
class_lies set units i None e = tt
class_lies set units i (Some byte) e = grind (arith, common_steps, le_refl, slice_get_within)

-- Every end of a match that begins at a place lies at least the least length past it, and within what
-- is read.
pub ends_lie : (r : Reading) (e : Expression) → Advances (length r.units) (min_len e) (λ i. ends r e i)
unfolding ends min_len
ends_lie r Expression.Empty i within = ((omega arith, within), tt)
ends_lie r (Expression.Class set) i within = class_lies set r.units i (slice_get r.units i) refl
ends_lie r (Expression.Look look) i within =
    elim (holds_at r look i) as (λ v. Every (Lies (length r.units) (i + 0)) (if v then i ∷ [] else [])) [
      | true ↦ ((omega arith, within), tt)
      | false ↦ tt
    ]
ends_lie r (Expression.Concat a b) i within =
    let n = length r.units in
    every-flat_map (Lies n (i + min_len a)) (Lies n (i + (min_len a + min_len b))) (λ j. ends r b j) (ends r a i)
    (λ j lies. lies-from n (i + (min_len a + min_len b)) (j + min_len b) (ends r b j) (omega arith)
    (ends_lie r b j lies.1))
    (ends_lie r a i within)
ends_lie r (Expression.Alternate a b) i within =
    let n = length r.units in
    every-append (Lies n (i + min (min_len a) (min_len b))) (ends r a i) (ends r b i)
    (lies-from n (i + min (min_len a) (min_len b)) (i + min_len a) (ends r a i) (omega arith) (ends_lie r a i within))
    (lies-from n (i + min (min_len a) (min_len b)) (i + min_len b) (ends r b i) (omega arith) (ends_lie r b i within))
ends_lie r (Expression.Repeat least most greedy body) i within =
    let n = length r.units in
    every-flat_map (Lies n (i + least * min_len body)) (Lies n (i + least * min_len body))
    (λ j. further r least most greedy (λ k. ends r body k) j) (rounds (λ k. ends r body k) least i)
    (λ j lies. lies-from n (i + least * min_len body) j (further r least most greedy (λ k. ends r body k) j) lies.0
    (further_lies r least most greedy (λ k. ends r body k)
    (weaker_advance n (min_len body) (λ k. ends r body k) (ends_lie r body)) j lies.1))
    (rounds_lie n (min_len body) (λ k. ends r body k) (ends_lie r body) least i within)

-- More rounds than there is room for change nothing.
nothing_past : (n i : ℕ) (body : ℕ → List ℕ) → Advances n 1 body → i ≤ n → n ≤ i + 0 → body i ≡ []
nothing_past n i body h within full = grind (arith, common_steps, none_is_nil)

preferring_nothing : (greedy : Bool) (more : List ℕ) (i : ℕ) → more ≡ [] → preferring greedy more i ≡ i ∷ []
preferring_nothing true more i e = ap (λ l. l ++ (i ∷ [])) e
preferring_nothing false more i e = ap (λ l. i ∷ l) e

module _ (n : ℕ) (greedy : Bool) (body : ℕ → List ℕ) (h : Advances n 1 body) where
  pub up_to_room : (k l i : ℕ) → i ≤ n → n ≤ i + k → n ≤ i + l → up_to greedy body k i ≡ up_to greedy body l i
  unfolding up_to
  up_to_room zero zero i within p q = refl
  up_to_room zero (suc l) i within p q =
      sym (preferring_nothing greedy (flat_map (λ j. up_to greedy body l j) (body i)) i
      (ap (flat_map (λ j. up_to greedy body l j)) (nothing_past n i body h within p)))
  up_to_room (suc k) zero i within p q =
      preferring_nothing greedy (flat_map (λ j. up_to greedy body k j) (body i)) i
      (ap (flat_map (λ j. up_to greedy body k j)) (nothing_past n i body h within q))
  up_to_room (suc k) (suc l) i within p q =
      ap (λ more. preferring greedy more i)
      (flat_map-same (Lies n (i + 1)) (λ j. up_to greedy body k j) (λ j. up_to greedy body l j) (body i)
      (λ j lies. up_to_room k l j lies.1 (omega arith) (omega arith)) (h i within))

-- A body that reads at least a byte.
pub advances_one : (r : Reading) (body : Expression) → 0 < min_len body
    → Advances (length r.units) 1 (λ i. ends r body i)
advances_one r body reads i within = grind (arith, common_steps, lies-from, ends_lie)

-- one bound less
abbrev pub lowered : Option ℕ → Option ℕ
lowered None = None
lowered (Some most) = Some (most - 1)

-- a least number of rounds above 0: a round, and then the rest
pub ends_repeat_more : (r : Reading) (n : ℕ) (most : Option ℕ) (greedy : Bool) (body : Expression) (i : ℕ)
    → ends r (Expression.Repeat (suc n) most greedy body) i
    ≡ flat_map (λ j. ends r (Expression.Repeat n (lowered most) greedy body) j) (ends r body i)
unfolding ends rounds
ends_repeat_more r n most greedy body i = grind (arith, common_steps, flat_map-flat_map)

-- no rounds at all
pub ends_repeat_none : (r : Reading) (greedy : Bool) (body : Expression) (i : ℕ)
    → ends r (Expression.Repeat 0 (Some 0) greedy body) i ≡ i ∷ []
unfolding ends rounds up_to
ends_repeat_none r greedy body i = refl

-- up to so many rounds: a further one, or none
pub ends_repeat_optional : (r : Reading) (most : ℕ) (greedy : Bool) (body : Expression) (i : ℕ)
    → ends r (Expression.Repeat 0 (Some (suc most)) greedy body) i
    ≡ preferring greedy (flat_map (λ j. ends r (Expression.Repeat 0 (Some most) greedy body) j) (ends r body i)) i
unfolding ends rounds up_to
ends_repeat_optional r most greedy body i = grind (arith, common_steps)

-- without an end: a further one, or none
pub ends_repeat_unbounded : (r : Reading) (greedy : Bool) (body : Expression) (i : ℕ) → 0 < min_len body
    → i ≤ length r.units
    → ends r (Expression.Repeat 0 None greedy body) i
    ≡ preferring greedy (flat_map (λ j. ends r (Expression.Repeat 0 None greedy body) j) (ends r body i)) i
unfolding ends rounds up_to
ends_repeat_unbounded r greedy body i reads within =
    let n = length r.units in
    append-nil (up_to greedy (λ k. ends r body k) (n - i) i)
    ∙ up_to_room n greedy (λ k. ends r body k) (advances_one r body reads) (n - i) (suc n) i within (omega arith)
    (omega arith)
    ∙ ap (λ more. preferring greedy more i)
    (flat_map-same (Lies n (i + 1)) (λ j. up_to greedy (λ k. ends r body k) n j)
    (λ j. up_to greedy (λ k. ends r body k) (n - j) j ++ []) (ends r body i)
    (λ j lies. up_to_room n greedy (λ k. ends r body k) (advances_one r body reads) n (n - j) j lies.1 (omega arith)
    (omega arith) ∙ sym (append-nil (up_to greedy (λ k. ends r body k) (n - j) j)))
    (advances_one r body reads i within))
