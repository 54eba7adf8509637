-- Where an expression must begin with the text's edge, it matches nowhere else.
use Rattle.rx_spec.proofs.Prelude.{common_steps, ◌≡◌, ℕ, zero, suc, ◌-◌, ◌<◌, ◌≤◌, Bool, true, false, ◌==◌, ◌&&◌, ◌||◌}
use Rattle.rx_spec.proofs.Prelude.{Option, Some, None, if◌then◌else◌, List, [], ◌∷◌, ◌++◌, length, refl, ap, ap₂, sym}
use Rattle.rx_spec.proofs.Prelude.{subst, arith, ⊎_elim, true≢false, and_parts, or_cases, slice_get-get_or, flat_map}
use Rattle.rx_spec.proofs.Prelude.{Reading, before, after, holds_at, Expression, IsLoopSafe, IsBounded, rounds}
use Rattle.rx_spec.proofs.Prelude.{preferring, up_to, ends, reads_nothing, begins_with_edge}
use Rattle.std.proofs.Common.{is_none}
use Rattle.std.specs.List.{AllByRecursion as Every}
use Rattle.rx_spec.specs.Looks.{holds_between}
use Rattle.rx_spec.specs.Edge.{is_edge}
use Rattle.rx_spec.specs.declared.Direction.{Direction}
use Rattle.rx_spec.specs.declared.Look.{Look}
use Rattle.rx_lemmas.proofs.Every.{every-append, every-flat_map}

-- each end is where it began
abbrev Stays : (ℕ → List ℕ) → Type 0
Stays body = (i : ℕ) → Every (λ j. j ≡ i) (body i)

both_stay : (A B : ℕ → List ℕ) → Stays A → Stays B → Stays (λ i. flat_map (λ j. B j) (A i))
both_stay A B a b i =
    every-flat_map (λ j. j ≡ i) (λ j. j ≡ i) (λ j. B j) (A i)
    (λ j e. subst (λ m. Every (λ l. l ≡ m) (B j)) e (b j)) (a i)

rounds_stay : (body : ℕ → List ℕ) → Stays body → (n : ℕ) → Stays (rounds body n)
unfolding rounds
rounds_stay body h zero i = (refl, tt)
rounds_stay body h (suc n) i = both_stay body (rounds body n) h (rounds_stay body h n) i

preferring_stays : (greedy : Bool) (more : List ℕ) (i : ℕ) → Every (λ j. j ≡ i) more
    → Every (λ j. j ≡ i) (preferring greedy more i)
preferring_stays true more i h = every-append (λ j. j ≡ i) more (i ∷ []) h (refl, tt)
preferring_stays false more i h = (refl, h)

up_to_stays : (greedy : Bool) (body : ℕ → List ℕ) → Stays body → (n : ℕ) → Stays (up_to greedy body n)
unfolding up_to
up_to_stays greedy body h zero i = (refl, tt)
up_to_stays greedy body h (suc n) i =
    grind (arith, common_steps, preferring_stays, both_stay, up_to_stays greedy body h n)

module _ (r : Reading) where
  repeat_stays : (least : ℕ) (most : Option ℕ) (greedy : Bool) (body : Expression)
      → reads_nothing (Expression.Repeat least most greedy body) ≡ true → IsBounded least most body
      → (reads_nothing body ≡ true → Stays (λ i. ends r body i))
      → Stays (λ i. ends r (Expression.Repeat least most greedy body) i)
  unfolding ends reads_nothing rounds up_to
  repeat_stays least None greedy body e bounded ih i =
      let B : ℕ → List ℕ = λ k. ends r body k in
      both_stay (rounds B least) (λ j. up_to greedy B (length r.units - j) j) (rounds_stay B (ih e) least)
      (λ j. up_to_stays greedy B (ih e) (length r.units - j) j) i
  repeat_stays zero (Some zero) greedy body e bounded ih i = (refl, tt)
  repeat_stays (suc least) (Some zero) greedy body e bounded ih i = absurd (omega arith)
  repeat_stays least (Some (suc most)) greedy body e bounded ih i =
      let B : ℕ → List ℕ = λ k. ends r body k in
      let stays = ih (reads_body most (reads_nothing body) e) in
      both_stay (rounds B least) (up_to greedy B (suc most - least)) (rounds_stay B stays least)
      (λ j. up_to_stays greedy B stays (suc most - least) j) i
    where
      reads_body : (most : ℕ) (b : Bool) → ((suc most == 0) || b) ≡ true → b ≡ true
      reads_body most b e = grind arith

  -- An expression that reads nothing ends where it begins.
  nothing_stays : (e : Expression) → IsLoopSafe e → reads_nothing e ≡ true → Stays (λ i. ends r e i)
  unfolding ends reads_nothing
  nothing_stays Expression.Empty safe e i = (refl, tt)
  nothing_stays (Expression.Class set) safe e i = absurd (true≢false (sym e))
  nothing_stays (Expression.Look look) safe e i =
      elim (holds_at r look i) as (λ v. Every (λ j. j ≡ i) (if v then i ∷ [] else [])) [
        | true ↦ (refl, tt)
        | false ↦ tt
      ]
  nothing_stays (Expression.Concat a b) safe e i =
      let h = and_parts (reads_nothing a) (reads_nothing b) e in
      both_stay (λ j. ends r a j) (λ j. ends r b j) (nothing_stays a safe.0 h.0) (nothing_stays b safe.1 h.1) i
  nothing_stays (Expression.Alternate a b) safe e i =
      let h = and_parts (reads_nothing a) (reads_nothing b) e in
      every-append (λ j. j ≡ i) (ends r a i) (ends r b i) (nothing_stays a safe.0 h.0 i) (nothing_stays b safe.1 h.1 i)
  nothing_stays (Expression.Repeat least most greedy body) safe e i =
      repeat_stays least most greedy body e safe.0 (nothing_stays body safe.1) i

-- the edge holds nowhere after a byte
edge_fails : (direction : Direction) (look : Look) (t : ℕ) (last next : Option ℕ) → is_edge direction look ≡ true
    → is_none last ≡ false → holds_between direction look t last next ≡ false
edge_fails Direction.Forward Look.Start t last next e h = h
edge_fails Direction.Reverse Look.End t last next e h = h
edge_fails Direction.Forward _ t last next e h = absurd (true≢false (sym e))
edge_fails Direction.Reverse _ t last next e h = absurd (true≢false (sym e))

some_before : (units : List ℕ) (i : ℕ) → 0 < i → i ≤ length units → is_none (before units i) ≡ false
some_before units zero above within = absurd (omega arith)
some_before units (suc i) above within = ap (λ o. is_none o) (slice_get-get_or units i 0 (omega arith))

flat_map-none : (f : ℕ → List ℕ) (i : ℕ) (xs : List ℕ) → f i ≡ [] → Every (λ j. j ≡ i) xs → flat_map f xs ≡ []
flat_map-none f i [] e h = refl
flat_map-none f i (x ∷ xs) e h = ap₂ (λ a b. a ++ b) (subst (λ j. f j ≡ []) (sym h.0) e) (flat_map-none f i xs e h.1)

-- An expression that must begin with the edge has no ends after a byte.
pub edge_ends : (r : Reading) (e : Expression) → IsLoopSafe e → begins_with_edge r.direction e ≡ true
    → (i : ℕ) → 0 < i → i ≤ length r.units → ends r e i ≡ []
unfolding ends begins_with_edge rounds
edge_ends r (Expression.Look look) safe e i above within = grind (arith, common_steps, edge_fails, some_before)
edge_ends r (Expression.Concat a b) safe e i above within =
    ⊎_elim
    (λ (h : begins_with_edge r.direction a ≡ true).
    ap (flat_map (λ j. ends r b j)) (edge_ends r a safe.0 h i above within))
    (λ (h : (reads_nothing a && begins_with_edge r.direction b) ≡ true).
    let k = and_parts (reads_nothing a) (begins_with_edge r.direction b) h in
    flat_map-none (λ j. ends r b j) i (ends r a i) (edge_ends r b safe.1 k.1 i above within)
    (nothing_stays r a safe.0 k.0 i))
    (or_cases (begins_with_edge r.direction a) (reads_nothing a && begins_with_edge r.direction b) e)
edge_ends r (Expression.Alternate a b) safe e i above within =
    let h = and_parts (begins_with_edge r.direction a) (begins_with_edge r.direction b) e in
    ap₂ (λ x y. x ++ y) (edge_ends r a safe.0 h.0 i above within) (edge_ends r b safe.1 h.1 i above within)
edge_ends r (Expression.Repeat (suc n) most greedy body) safe e i above within =
    grind (arith, common_steps, edge_ends r body safe.1 e i above within)
edge_ends r _ safe e i above within = absurd (true≢false (sym e))
