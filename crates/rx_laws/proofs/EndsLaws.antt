-- Ends past the end of what is read: a match there reads nothing.
use Rattle.rx_spec.proofs.Prelude.{common_steps, ◌≡◌, ℕ, zero, suc, ◌+◌, ◌-◌, ◌*◌, ◌<◌, ◌≤◌, Bool, true, false, Option}
use Rattle.rx_spec.proofs.Prelude.{Some, None, List, [], ◌∷◌, length, slice_get, if◌then◌else◌, refl, sym, subst, arith}
use Rattle.rx_spec.proofs.Prelude.{flat_map, Reading, holds_at, Expression, min_len, rounds, preferring, up_to, further}
use Rattle.rx_spec.proofs.Prelude.{ends}
use Rattle.std.specs.List.{AllByRecursion as Every}
use Rattle.rx_lemmas.proofs.Every.{every-append, every-weaker, every-flat_map, none_is_nil}
use Rattle.rx_lemmas.proofs.Ends.{ends_repeat_unbounded}

-- an end of an expression of a least length, in a place where nothing is left to read
abbrev Stays : ℕ → ℕ → ℕ → Type 0
Stays least i j = (j ≡ i) × (least ≡ 0)

no_byte : (units : List ℕ) (i : ℕ) → length units ≤ i → slice_get units i ≡ None
no_byte [] i h = refl
no_byte (b ∷ bs) zero h = absurd (omega arith)
no_byte (b ∷ bs) (suc i) h = no_byte bs i (omega arith)

-- from an end that stayed, what stays there
at_end : (least more i j : ℕ) (body : ℕ → List ℕ) → Stays least i j → Every (Stays more i) (body i)
    → Every (Stays (least + more) i) (body j)
at_end least more i j body stays h = grind (arith, common_steps)

rounds_stay : (least i : ℕ) (body : ℕ → List ℕ) → Every (Stays least i) (body i) → (n : ℕ)
    → Every (Stays (n * least) i) (rounds body n i)
unfolding rounds
rounds_stay least i body h zero = ((refl, omega arith), tt)
rounds_stay least i body h (suc n) =
    every-flat_map (Stays least i) (Stays (suc n * least) i) (λ j. rounds body n j) (body i)
    (λ j stays. let all : least + n * least ≡ suc n * least = omega arith in
    subst (λ k. Every (Stays k i) (rounds body n j)) all
    (at_end least (n * least) i j (rounds body n) stays (rounds_stay least i body h n)))
    h

preferring_stays : (i : ℕ) (greedy : Bool) (more : List ℕ) → Every (Stays 0 i) more
    → Every (Stays 0 i) (preferring greedy more i)
preferring_stays i true more h = every-append (Stays 0 i) more (i ∷ []) h ((refl, refl), tt)
preferring_stays i false more h = ((refl, refl), h)

up_to_stays : (least i : ℕ) (greedy : Bool) (body : ℕ → List ℕ) → Every (Stays least i) (body i) → (n : ℕ)
    → Every (Stays 0 i) (up_to greedy body n i)
unfolding up_to
up_to_stays least i greedy body h zero = ((refl, refl), tt)
up_to_stays least i greedy body h (suc n) =
    preferring_stays i greedy (flat_map (λ j. up_to greedy body n j) (body i))
    (every-flat_map (Stays least i) (Stays 0 i) (λ j. up_to greedy body n j) (body i)
    (λ j stays. subst (λ k. Every (Stays 0 i) (up_to greedy body n k)) (sym stays.0)
    (up_to_stays least i greedy body h n))
    h)

further_stays : (r : Reading) (least : ℕ) (most : Option ℕ) (greedy : Bool) (body : ℕ → List ℕ) (m i : ℕ)
    → Every (Stays m i) (body i) → Every (Stays 0 i) (further r least most greedy body i)
further_stays r least (Some most) greedy body m i h = up_to_stays m i greedy body h (most - least)
further_stays r least None greedy body m i h = up_to_stays m i greedy body h (length r.units - i)

ends_stay : (r : Reading) (e : Expression) (i : ℕ) → length r.units ≤ i → Every (Stays (min_len e) i) (ends r e i)
unfolding ends min_len
ends_stay r Expression.Empty i h = ((refl, refl), tt)
ends_stay r (Expression.Class set) i h = grind (arith, common_steps, no_byte)
ends_stay r (Expression.Look look) i h = if_holds (holds_at r look i)
  where
    if_holds : (b : Bool) → Every (Stays 0 i) (if b then i ∷ [] else [])
    if_holds true = ((refl, refl), tt)
    if_holds false = tt
ends_stay r (Expression.Concat a b) i h =
    every-flat_map (Stays (min_len a) i) (Stays (min_len a + min_len b) i) (λ j. ends r b j) (ends r a i)
    (λ j stays. at_end (min_len a) (min_len b) i j (ends r b) stays (ends_stay r b i h)) (ends_stay r a i h)
ends_stay r (Expression.Alternate a b) i h =
    let least = min_len (Expression.Alternate a b) in
    every-append (Stays least i) (ends r a i) (ends r b i)
    (every-weaker (Stays (min_len a) i) (Stays least i) (ends r a i) (λ j s. (s.0, omega arith))
    (ends_stay r a i h))
    (every-weaker (Stays (min_len b) i) (Stays least i) (ends r b i) (λ j s. (s.0, omega arith))
    (ends_stay r b i h))
ends_stay r (Expression.Repeat least most greedy body) i h =
    let m = min_len body in
    let f = λ (k : ℕ). ends r body k in
    every-flat_map (Stays (least * m) i) (Stays (least * m) i) (λ j. further r least most greedy f j) (rounds f least i)
    (λ j stays. let all : least * m + 0 ≡ least * m = omega arith in
    subst (λ k. Every (Stays k i) (further r least most greedy f j)) all
    (at_end (least * m) 0 i j (further r least most greedy f) stays
    (further_stays r least most greedy f m i (ends_stay r body i h))))
    (rounds_stay m i f (ends_stay r body i h) least)

-- so a body that reads a byte has no end there
none_past : (r : Reading) (e : Expression) (i : ℕ) → 0 < min_len e → length r.units ≤ i → ends r e i ≡ []
none_past r e i reads h = grind (arith, common_steps, none_is_nil, ends_stay)

-- and a repetition of it stops at once
stops_past : (r : Reading) (greedy : Bool) (body : Expression) (i : ℕ) → 0 < min_len body → length r.units ≤ i
    → ends r (Expression.Repeat 0 None greedy body) i
    ≡ preferring greedy (flat_map (λ j. ends r (Expression.Repeat 0 None greedy body) j) (ends r body i)) i
unfolding ends rounds up_to
stops_past r greedy body i reads h = grind (arith, common_steps, none_past)

-- A repetition without an end unfolds to itself, wherever it begins.
pub unbounded_round : (r : Reading) (greedy : Bool) (body : Expression) (i : ℕ) → 0 < min_len body
    → ends r (Expression.Repeat 0 None greedy body) i
    ≡ preferring greedy (flat_map (λ j. ends r (Expression.Repeat 0 None greedy body) j) (ends r body i)) i
unbounded_round r greedy body i reads = grind (arith, common_steps, stops_past, ends_repeat_unbounded)
