-- The textbook meaning of an expression, with no order: from which place to which it matches. It is
-- what the lists of ends hold.
use Rattle.rx_spec.proofs.Prelude.{common_steps, [], ◌≡◌, ℕ, suc, zero, ◌+◌, ◌*◌, ◌-◌, ◌<◌, ◌≤◌, ◌⊎◌, inl, inr, Bool}
use Rattle.rx_spec.proofs.Prelude.{true, false, Option, Some, None, List, ◌∷◌, length, refl, sym, subst, arith, ⊎_elim}
use Rattle.rx_spec.proofs.Prelude.{Contains-append_left, Contains-append_right, Contains-append_cases, Contains}
use Rattle.rx_spec.proofs.Prelude.{slice_get, flat_map, Reading, after, holds_at, Expression, min_len, IsLoopSafe}
use Rattle.rx_spec.proofs.Prelude.{IsBounded, ends, class_ends, rounds, up_to, further, preferring}
use Rattle.rx_lemmas.proofs.Firsts.{by_test, Contains-here, Contains-there, Contains-nil, Contains-cases}
-- The relation stands among the definitions; those who cite it from here find it here.
pub use Rattle.rx_spec.specs.Matching.{IsIn, Rounds, IsAllowed, Reaches}

pub IsIn-within : (set : ℕ) (units : List ℕ) (i : ℕ) → IsIn set (slice_get units i) → i < length units
IsIn-within set [] i h = absurd h
IsIn-within set (u ∷ us) zero h = omega arith
IsIn-within set (u ∷ us) (suc i) h = let rest = IsIn-within set us i h in omega arith

times_more : (a b m : ℕ) → a ≤ b → a * m ≤ b * m
times_more a b m h = grind arith

-- rounds, one behind the other
pub Rounds-append : (R : ℕ → ℕ → Type 0) (m n i k j : ℕ) → Rounds R m i k → Rounds R n k j → Rounds R (m + n) i j
Rounds-append R zero n i k j a b = grind (arith, common_steps)
Rounds-append R (suc m) n i k j (l, a, b) c =
    let e : suc m + n ≡ suc (m + n) = omega arith in
    subst (λ x. Rounds R x i j) (sym e) (l, a, Rounds-append R m n l k j b c)

pub Rounds-push : (R : ℕ → ℕ → Type 0) (n i k j : ℕ) → Rounds R n i k → R k j → Rounds R (suc n) i j
Rounds-push R zero i k j a b = (j, subst (λ x. R x j) (sym a) b, refl)
Rounds-push R (suc n) i k j (l, a, c) b = (l, a, Rounds-push R n l k j c b)

pub Rounds-split : (R : ℕ → ℕ → Type 0) (m n i j : ℕ) → Rounds R (m + n) i j → (k : ℕ) × Rounds R m i k × Rounds R n k j
Rounds-split R zero n i j a = grind (arith, common_steps)
Rounds-split R (suc m) n i j a =
    let e : suc m + n ≡ suc (m + n) = omega arith in
    go (subst (λ x. Rounds R x i j) e a) (λ k c. Rounds-split R m n k j c)
  where
    go : Rounds R (suc (m + n)) i j → ((k : ℕ) → Rounds R (m + n) k j → (l : ℕ) × Rounds R m k l × Rounds R n l j)
        → (l : ℕ) × Rounds R (suc m) i l × Rounds R n l j
    go (k, b, c) further = let found = further k c in (found.0, (k, b, found.1), found.2)

-- A body's rounds stay within, and read at least so much each.
module _ (R : ℕ → ℕ → Type 0) (limit least : ℕ)
    (h : (i j : ℕ) → i ≤ limit → R i j → (i + least ≤ j) × (j ≤ limit)) where
  pub Rounds-lie : (n i j : ℕ) → i ≤ limit → Rounds R n i j → (i + n * least ≤ j) × (j ≤ limit)
  Rounds-lie zero i j within a = (omega arith, omega arith)
  Rounds-lie (suc n) i j within (k, a, b) =
      let first = h i k within a in
      let rest = Rounds-lie n k j first.1 b in
      (omega arith, rest.1)

-- A match ends no less than the least length on, and within what is read.
pub reaches_lie : (r : Reading) (e : Expression) (i j : ℕ) → i ≤ length r.units → Reaches r e i j
    → (i + min_len e ≤ j) × (j ≤ length r.units)
unfolding min_len
reaches_lie r Expression.Empty i j within h = (omega arith, omega arith)
reaches_lie r (Expression.Class set) i j within (e, is) =
    let there = IsIn-within set r.units i is in
    (omega arith, omega arith)
reaches_lie r (Expression.Look look) i j within (e, is) = (omega arith, omega arith)
reaches_lie r (Expression.Concat a b) i j within (k, x, y) =
    let first = reaches_lie r a i k within x in
    let second = reaches_lie r b k j first.1 y in
    (omega arith, second.1)
reaches_lie r (Expression.Alternate a b) i j within (inl x) =
    let h = reaches_lie r a i j within x in
    (omega arith, h.1)
reaches_lie r (Expression.Alternate a b) i j within (inr x) =
    let h = reaches_lie r b i j within x in
    (omega arith, h.1)
reaches_lie r (Expression.Repeat least most greedy body) i j within (n, low, high, x) =
    let lie = λ (k l : ℕ). reaches_lie r body k l in
    let h = Rounds-lie (Reaches r body) (length r.units) (min_len body) lie n i j within x in
    let more = times_more least n (min_len body) low in
    (omega arith, h.1)

-- what a flat_map holds
pub flat_map_from : {X Y : Type 0} (f : X → List Y) (xs : List X) (y : Y) → Contains (flat_map f xs) y
    → (x : X) × Contains xs x × Contains (f x) y
flat_map_from {X} f [] y c = absurd (Contains-nil y c)
flat_map_from {X} f (x ∷ xs) y c =
    ⊎_elim (λ (d : Contains (f x) y). here d) (λ (d : Contains (flat_map f xs) y). later (flat_map_from f xs y d))
    (Contains-append_cases (f x) (flat_map f xs) y c)
  where
    here : Contains (f x) y → (z : X) × Contains (x ∷ xs) z × Contains (f z) y
    here d = (x, Contains-here x xs, d)

    later : (z : X) × Contains xs z × Contains (f z) y → (z : X) × Contains (x ∷ xs) z × Contains (f z) y
    later (z, there, d) = (z, Contains-there x xs z there, d)

pub flat_map_into : {X Y : Type 0} (f : X → List Y) (xs : List X) (x : X) (y : Y) → Contains xs x → Contains (f x) y
    → Contains (flat_map f xs) y
flat_map_into f [] x y c d = absurd (Contains-nil x c)
flat_map_into f (z ∷ zs) x y c d =
    ⊎_elim (λ (e : z ≡ x). Contains-append_left (f z) (flat_map f zs) y (subst (λ v. Contains (f v) y) (sym e) d))
    (λ (e : Contains zs x). Contains-append_right (f z) (flat_map f zs) y (flat_map_into f zs x y e d))
    (Contains-cases z zs x c)

pub only_one : {X : Type 0} (x y : X) → Contains (x ∷ []) y → x ≡ y
only_one x y c = ⊎_elim (λ (e : x ≡ y). e) (λ (d : Contains [] y). absurd (Contains-nil y d)) (Contains-cases x [] y c)

pub one : {X : Type 0} (x y : X) → x ≡ y → Contains (x ∷ []) y
one x y e = (0, omega arith, e)

-- the lists of ends hold what is reached, part by part
class_sound : (set : ℕ) (byte : Option ℕ) (i j : ℕ) → Contains (class_ends set byte i) j → (j ≡ i + 1) × IsIn set byte
class_sound set None i j c = absurd (Contains-nil j c)
class_sound set (Some b) i j c = grind (arith, common_steps)

class_complete : (set : ℕ) (byte : Option ℕ) (i j : ℕ) → j ≡ i + 1 → IsIn set byte → Contains (class_ends set byte i) j
class_complete set None i j e h = absurd h
class_complete set (Some b) i j e h = rw h (one (i + 1) j (sym e))

pub pair : {A B : Type 0} → A → B → A × B
pair a b = (a, b)

abbrev Holds : (ℕ → List ℕ) → ℕ → ℕ → Type 0
Holds body i j = Contains (body i) j

rounds_sound : (body : ℕ → List ℕ) (n i j : ℕ) → Contains (rounds body n i) j → Rounds (Holds body) n i j
unfolding rounds
rounds_sound body zero i j c = only_one i j c
rounds_sound body (suc n) i j c =
    let found = flat_map_from (λ k. rounds body n k) (body i) j c in
    (found.0, found.1, rounds_sound body n found.0 j found.2)

rounds_complete : (body : ℕ → List ℕ) (n i j : ℕ) → Rounds (Holds body) n i j → Contains (rounds body n i) j
unfolding rounds
rounds_complete body zero i j e = one i j e
rounds_complete body (suc n) i j (k, c, d) =
    flat_map_into (λ l. rounds body n l) (body i) k j c (rounds_complete body n k j d)

preferring_cases : (greedy : Bool) (more : List ℕ) (i j : ℕ) → Contains (preferring greedy more i) j
    → Contains more j ⊎ (i ≡ j)
preferring_cases true more i j c = grind (arith, common_steps)
preferring_cases false more i j c = grind (arith, common_steps)

preferring_more : (greedy : Bool) (more : List ℕ) (i j : ℕ) → Contains more j → Contains (preferring greedy more i) j
preferring_more true more i j c = Contains-append_left more (i ∷ []) j c
preferring_more false more i j c = Contains-there i more j c

preferring_none : (greedy : Bool) (more : List ℕ) (i j : ℕ) → i ≡ j → Contains (preferring greedy more i) j
preferring_none true more i j e = Contains-append_right more (i ∷ []) j (one i j e)
preferring_none false more i j e = (0, omega arith, e)

up_to_sound : (greedy : Bool) (body : ℕ → List ℕ) (n i j : ℕ) → Contains (up_to greedy body n i) j
    → (m : ℕ) × (m ≤ n) × Rounds (Holds body) m i j
unfolding up_to
up_to_sound greedy body zero i j c = (0, omega arith, only_one i j c)
up_to_sound greedy body (suc n) i j c =
    let more = λ (k : ℕ). up_to greedy body n k in
    ⊎_elim (λ (d : Contains (flat_map more (body i)) j). let found = flat_map_from more (body i) j d in
    one_more found.0 found.1 (up_to_sound greedy body n found.0 j found.2))
    (λ (e : i ≡ j). (0, omega arith, e)) (preferring_cases greedy (flat_map more (body i)) i j c)
  where
    one_more : (k : ℕ) → Holds body i k → (m : ℕ) × (m ≤ n) × Rounds (Holds body) m k j
        → (m : ℕ) × (m ≤ suc n) × Rounds (Holds body) m i j
    one_more k h (m, few, rest) = (suc m, omega arith, (k, h, rest))

up_to_complete : (greedy : Bool) (body : ℕ → List ℕ) (n m i j : ℕ) → m ≤ n → Rounds (Holds body) m i j
    → Contains (up_to greedy body n i) j
unfolding up_to
up_to_complete greedy body zero zero i j h e = one i j e
up_to_complete greedy body zero (suc m) i j h e = absurd (omega arith)
up_to_complete greedy body (suc n) zero i j h e = grind (arith, common_steps, preferring_none)
up_to_complete greedy body (suc n) (suc m) i j h (k, c, d) =
    preferring_more greedy (flat_map (λ l. up_to greedy body n l) (body i)) i j
    (flat_map_into (λ l. up_to greedy body n l) (body i) k j c (up_to_complete greedy body n m k j (omega arith) d))

pub Rounds-weaker : (R S : ℕ → ℕ → Type 0) → ((i j : ℕ) → R i j → S i j) → (n i j : ℕ) → Rounds R n i j → Rounds S n i j
Rounds-weaker R S h zero i j e = e
Rounds-weaker R S h (suc n) i j (k, a, b) = (k, h i k a, Rounds-weaker R S h n k j b)

module _ (R S : ℕ → ℕ → Type 0) (limit : ℕ) (h : (i j : ℕ) → i ≤ limit → R i j → S i j × (j ≤ limit)) where
  pub Rounds-within : (n i j : ℕ) → i ≤ limit → Rounds R n i j → Rounds S n i j
  Rounds-within zero i j within e = e
  Rounds-within (suc n) i j within (k, a, b) =
      let first = h i k within a in
      (k, first.0, Rounds-within n k j first.1 b)

room : (i n L j limit : ℕ) → 0 < L → i + n * L ≤ j → j ≤ limit → n ≤ limit - i
room i n L j limit pos h k = grind (arith, common_steps)

-- what may follow the rounds that must be
module _ (r : Reading) (least : ℕ) (greedy : Bool) (e : Expression) (body : ℕ → List ℕ) where
  further_sound : (most : Option ℕ) → IsBounded least most e → (i j : ℕ)
      → Contains (further r least most greedy body i) j
      → (m : ℕ) × IsAllowed most (least + m) × Rounds (Holds body) m i j
  further_sound None bounded i j c =
      let found = up_to_sound greedy body (length r.units - i) i j c in
      (found.0, tt, found.2)
  further_sound (Some most) bounded i j c =
      let found = up_to_sound greedy body (most - least) i j c in
      (found.0, omega arith, found.2)

  further_complete : (most : Option ℕ) → IsBounded least most e → (m i j : ℕ) → IsAllowed most (least + m)
      → (i + m * min_len e ≤ j) × (j ≤ length r.units) → Rounds (Holds body) m i j
      → Contains (further r least most greedy body i) j
  further_complete None bounded m i j allowed lies x =
      up_to_complete greedy body (length r.units - i) m i j
      (room i m (min_len e) j (length r.units) bounded lies.0 lies.1) x
  further_complete (Some most) bounded m i j allowed lies x =
      up_to_complete greedy body (most - least) m i j (omega arith) x

-- each end is reached
pub reaches_sound : (r : Reading) (e : Expression) (i j : ℕ) → IsLoopSafe e → Contains (ends r e i) j → Reaches r e i j
unfolding ends
reaches_sound r Expression.Empty i j safe c = only_one i j c
reaches_sound r (Expression.Class set) i j safe c = class_sound set (after r.units i) i j c
reaches_sound r (Expression.Look look) i j safe c = by_test (holds_at r look i)
    (λ e. (only_one i j (rw e at c), e))
    (λ e. absurd (Contains-nil j (rw e at c)))
reaches_sound r (Expression.Concat a b) i j safe c =
    let found = flat_map_from (λ k. ends r b k) (ends r a i) j c in
    (found.0, reaches_sound r a i found.0 safe.0 found.1, reaches_sound r b found.0 j safe.1 found.2)
reaches_sound r (Expression.Alternate a b) i j safe c =
    ⊎_elim (λ (d : Contains (ends r a i) j). inl (reaches_sound r a i j safe.0 d))
    (λ (d : Contains (ends r b i) j). inr (reaches_sound r b i j safe.1 d))
    (Contains-append_cases (ends r a i) (ends r b i) j c)
reaches_sound r (Expression.Repeat least most greedy body) i j safe c =
    let each = λ (k : ℕ). ends r body k in
    let found = flat_map_from (λ k. further r least most greedy each k) (rounds each least i) j c in
    let first = rounds_sound each least i found.0 found.1 in
    let rest = further_sound r least greedy body each most safe.0 found.0 j found.2 in
    let deeper = λ (k l : ℕ) (d : Contains (ends r body k) l). reaches_sound r body k l safe.1 d in (
      least + rest.0,
      omega arith,
      rest.1,
      Rounds-append (Reaches r body) least rest.0 i found.0 j
          (Rounds-weaker (Holds each) (Reaches r body) deeper least i found.0 first)
          (Rounds-weaker (Holds each) (Reaches r body) deeper rest.0 found.0 j rest.2),
    )

-- what is reached is an end
pub reaches_complete : (r : Reading) (e : Expression) (i j : ℕ) → IsLoopSafe e → i ≤ length r.units → Reaches r e i j
    → Contains (ends r e i) j
unfolding ends
reaches_complete r Expression.Empty i j safe within h = one i j h
reaches_complete r (Expression.Class set) i j safe within (e, h) = class_complete set (after r.units i) i j e h
reaches_complete r (Expression.Look look) i j safe within (e, h) = rw h (one i j e)
reaches_complete r (Expression.Concat a b) i j safe within (k, x, y) =
    flat_map_into (λ l. ends r b l) (ends r a i) k j (reaches_complete r a i k safe.0 within x)
    (reaches_complete r b k j safe.1 (reaches_lie r a i k within x).1 y)
reaches_complete r (Expression.Alternate a b) i j safe within (inl x) =
    Contains-append_left (ends r a i) (ends r b i) j (reaches_complete r a i j safe.0 within x)
reaches_complete r (Expression.Alternate a b) i j safe within (inr x) =
    Contains-append_right (ends r a i) (ends r b i) j (reaches_complete r b i j safe.1 within x)
reaches_complete r (Expression.Repeat least most greedy body) i j safe within (n, low, high, x) =
    let each = λ (k : ℕ). ends r body k in
    let all = length r.units in
    let R = Reaches r body in
    let deeper = λ (k l : ℕ) (h : k ≤ all) (d : R k l).
    pair (reaches_complete r body k l safe.1 h d) (reaches_lie r body k l h d).1 in
    let lie = λ (k l : ℕ) (h : k ≤ all) (d : R k l). reaches_lie r body k l h d in
    let same : n ≡ least + (n - least) = omega arith in
    let parts = Rounds-split R least (n - least) i j (subst (λ m. Rounds R m i j) same x) in
    let middle = Rounds-lie R all (min_len body) lie least i parts.0 within parts.1 in
    let last = Rounds-lie R all (min_len body) lie (n - least) parts.0 j middle.1 parts.2 in
    let first = Rounds-within R (Holds each) all deeper least i parts.0 within parts.1 in
    let rest = Rounds-within R (Holds each) all deeper (n - least) parts.0 j middle.1 parts.2 in
    flat_map_into (λ k. further r least most greedy each k) (rounds each least i) parts.0 j
    (rounds_complete each least i parts.0 first)
    (further_complete r least greedy body each most safe.0 (n - least) parts.0 j (subst (IsAllowed most) same high)
    last rest)
