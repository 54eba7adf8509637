-- A part of an NFA gives, at its entry, the first success of what comes after it over the ends of its expression.
use Rattle.rx_spec.proofs.Prelude.{rules, ◌≡◌, ℕ, zero, suc, ◌+◌, ◌-◌, ◌*◌, ◌≤◌, Bool, true, false, if◌then◌else◌}
use Rattle.rx_spec.proofs.Prelude.{Option, Some, None, List, [], ◌∷◌, ◌++◌, length, refl, ap, ap₂, sym, ◌∙◌, subst}
use Rattle.rx_spec.proofs.Prelude.{arith, length-append, append-nil, common_steps, map-id, option_or, flat_map, Reading}
use Rattle.rx_spec.proofs.Prelude.{after, holds_at, Expression, IsLoopSafe, IsBounded, class_ends, rounds, preferring}
use Rattle.rx_spec.proofs.Prelude.{up_to, further, ends, first_of, Row, Maker, straight, row_to, chained, either}
use Rattle.rx_spec.proofs.Prelude.{choice, copies, optional, loop, repeated, compile, row_at}
use Rattle.std.proofs.lemmas.List.Concat.{flat_map_single}
use Rattle.rx_spec.specs.declared.Look.{Look}
use Rattle.rx_lemmas.proofs.Every.{every-weaker, none_is_nil, flat_map-flat_map, flat_map-alike}
use Rattle.rx_lemmas.proofs.Ends.{Lies, Advances, rounds_lie, ends_lie, advances_one}
use Rattle.rx_lemmas.proofs.RowPlaces.{Stands, stands-left, stands-right}
use Rattle.rx_meaning.proofs.FirstSuccess.{first_of-nil, first_of-single, first_of-append, first_of-same}
use Rattle.rx_meaning.proofs.FirstSuccess.{first_of-flat_map}
use Rattle.rx_meaning.proofs.Solution.{Valued, read_by, given, gives_at, given_as}

-- a body whose ends lie where it begins or past that, and so many rounds of it
still : (r : Reading) (e : Expression) → Advances (length r.units) 0 (λ i. ends r e i)
still r e i within = grind (arith, common_steps, every-weaker, ends_lie)

rounds_still : (n : ℕ) (body : ℕ → List ℕ) → Advances n 0 body → (k : ℕ) → Advances n 0 (rounds body k)
rounds_still n body h k i within =
    every-weaker (Lies n (i + k * 0)) (Lies n (i + 0)) (rounds body k i) (λ j lie. (omega arith, lie.1))
    (rounds_lie n 0 body h k i within)

-- the last of so many rounds, or the first
rounds_turned : (B : ℕ → List ℕ) (n i : ℕ) → flat_map (λ j. B j) (rounds B n i) ≡ flat_map (λ j. rounds B n j) (B i)
unfolding rounds
rounds_turned B zero i = append-nil (B i) ∙ sym (flat_map_single (λ j. j) (B i) ∙ map-id (B i))
rounds_turned B (suc n) i = grind (arith, common_steps, flat_map-flat_map, flat_map-alike, rounds_turned B n)

preferring_none : (greedy : Bool) (i : ℕ) → preferring greedy [] i ≡ i ∷ []
preferring_none true i = refl
preferring_none false i = refl

module _ {V : Type 0} (x : Valued V) where
  -- what a row gives first at places, in their order
  abbrev pub first_end : ℕ → List ℕ → Option V
  first_end next places = first_of (λ j. given x next j) places

  -- A maker's part means these ends.
  pub record Means (maker : Maker) (body : ℕ → List ℕ) : Type 0 where
    pub entry : (base next : ℕ) → Stands x.rows base (maker base next).rows → (i : ℕ) → i ≤ length x.reading.units
        → given x (maker base next).entry i ≡ first_end next (body i)

  -- from each place on, what one row gives is what another gives first of a body's ends
  abbrev Leads : ℕ → ℕ → (ℕ → List ℕ) → Type 0
  Leads q next body = (j : ℕ) → j ≤ length x.reading.units → given x q j ≡ first_end next (body j)

  -- a body's ends, and from each of them what comes after
  ends_lead : (q next i : ℕ) (A B : ℕ → List ℕ) → Advances (length x.reading.units) 0 A → Leads q next B
      → i ≤ length x.reading.units → first_end q (A i) ≡ first_end next (flat_map (λ j. B j) (A i))
  ends_lead q next i A B lies leads within = grind (arith, common_steps, first_of-same, given, first_of-flat_map)

  straight_means : Means straight (λ i. i ∷ [])
  straight_means = record { entry = λ base next stands i within. sym (first_of-single (λ j. given x next j) i) }

  class_given : (set next i : ℕ) (byte : Option ℕ)
      → read_by set byte (given x next (i + 1)) ≡ first_end next (class_ends set byte i)
  class_given set next i None = sym (first_of-nil (λ j. given x next j))
  class_given set next i (Some byte) = grind (arith, common_steps, given, first_of-single, first_of-nil)

  class_means : (set : ℕ) → Means (row_to (Row.Bytes set)) (λ i. class_ends set (after x.reading.units i) i)
  class_means set = grind (arith, common_steps, given_as, class_given)

  look_means : (look : Look) → Means (row_to (Row.Look look)) (λ i. if holds_at x.reading look i then i ∷ [] else [])
  look_means look = record {
    entry = λ base next stands i within.
        given_as x base i (Row.Look look next) stands.0
        ∙ (elim (holds_at x.reading look i)
        as (λ v. (if v then given x next i else None) ≡ first_end next (if v then i ∷ [] else [])) [
          | true ↦ sym (first_of-single (λ j. given x next j) i)
          | false ↦ sym (first_of-nil (λ j. given x next j))
        ]);
  }

  chained_means : {first second : Maker} {A B : ℕ → List ℕ} → Advances (length x.reading.units) 0 A
      → Means first A → Means second B → Means (chained first second) (λ i. flat_map (λ j. B j) (A i))
  chained_means {first} {second} {A} {B} lies f s = grind (arith, common_steps, stands-right, ends_lead, stands-left)

  either_means : {first second : Maker} {A B : ℕ → List ℕ}
      → Means first A → Means second B → Means (either first second) (λ i. A i ++ B i)
  either_means {first} {second} {A} {B} f s = record {
    entry = λ base next stands i within.
        let a = first base next in
        let b = second (base + length a.rows) next in
        let last : List Row = Row.Split a.entry b.entry ∷ [] in
        let both = stands-left x.rows base (a.rows ++ b.rows) last stands in
        let split = stands-right x.rows base (a.rows ++ b.rows) last stands in
        let place : base + length (a.rows ++ b.rows) ≡ base + length a.rows + length b.rows
        = omega (arith, length-append a.rows b.rows) in
        given_as x (base + length a.rows + length b.rows) i (Row.Split a.entry b.entry)
        (subst (λ q. row_at x.rows q ≡ Row.Split a.entry b.entry) place split.0)
        ∙ ap₂ option_or (f.entry base next (stands-left x.rows base a.rows b.rows both) i within)
        (s.entry (base + length a.rows) next (stands-right x.rows base a.rows b.rows both) i within)
        ∙ sym (first_of-append (λ j. given x next j) (A i) (B i));
  }

  copies_mean : {body : Maker} {B : ℕ → List ℕ} → Advances (length x.reading.units) 0 B → Means body B
      → (n : ℕ) → Means (copies n body) (rounds B n)
  unfolding copies rounds
  copies_mean lies h zero = straight_means
  copies_mean {B = B} lies h (suc n) =
      let all = chained_means (rounds_still (length x.reading.units) B lies n) (copies_mean lies h n) h in record {
        entry = λ base next stands i within.
            all.entry base next stands i within ∙ ap (first_end next) (rounds_turned B n i);
      }

  choice_given : (greedy : Bool) (round next i : ℕ) (more : List ℕ) → given x round i ≡ first_end next more
      → gives_at x i (choice greedy round next) ≡ first_end next (preferring greedy more i)
  unfolding first_of
  choice_given true round next i more e = grind (arith, common_steps, first_of-single, given, first_of-append)
  choice_given false round next i more e = ap (option_or (given x next i)) e

  optional_means : (greedy : Bool) {body : Maker} {B : ℕ → List ℕ} → Advances (length x.reading.units) 0 B
      → Means body B → (n : ℕ) → Means (optional greedy n body) (up_to greedy B n)
  unfolding optional up_to
  optional_means greedy lies h zero = grind (arith, common_steps, straight_means)
  optional_means greedy {body} {B} lies h (suc n) = record {
    entry = λ base next stands i within.
        let inner = optional greedy n body base next in
        let round = body (base + length inner.rows) inner.entry in
        let last : List Row = choice greedy round.entry next ∷ [] in
        let both = stands-left x.rows base (inner.rows ++ round.rows) last stands in
        let split = stands-right x.rows base (inner.rows ++ round.rows) last stands in
        let place : base + length (inner.rows ++ round.rows) ≡ base + length inner.rows + length round.rows
        = omega (arith, length-append inner.rows round.rows) in
        given_as x (base + length inner.rows + length round.rows) i (choice greedy round.entry next)
        (subst (λ q. row_at x.rows q ≡ choice greedy round.entry next) place split.0)
        ∙ choice_given greedy round.entry next i (flat_map (λ j. up_to greedy B n j) (B i))
        (h.entry (base + length inner.rows) inner.entry (stands-right x.rows base inner.rows round.rows both) i within
        ∙ ends_lead inner.entry next i B (up_to greedy B n) lies
        ((optional_means greedy lies h n).entry base next (stands-left x.rows base inner.rows round.rows both)) within);
  }

  module _ (greedy : Bool) {body : Maker} {B : ℕ → List ℕ} (lies : Advances (length x.reading.units) 1 B)
      (h : Means body B) where
    -- the loop, by how many rounds there is room for
    looped : (base next : ℕ) → Stands x.rows base (loop greedy body base next).rows
        → (m i : ℕ) → i ≤ length x.reading.units → length x.reading.units ≤ i + m
        → given x base i ≡ first_end next (up_to greedy B m i)
    unfolding up_to
    looped base next stands zero i within room =
        let round = body (base + 1) base in
        let nothing = none_is_nil (Lies (length x.reading.units) (i + 1)) (B i)
        (λ j lie. omega arith) (lies i within) in
        given_as x base i (choice greedy round.entry next) stands.0
        ∙ choice_given greedy round.entry next i []
        (h.entry (base + 1) base stands.1 i within ∙ ap (first_end base) nothing
        ∙ first_of-nil (λ j. given x base j) ∙ sym (first_of-nil (λ j. given x next j)))
        ∙ ap (first_end next) (preferring_none greedy i)
    looped base next stands (suc m) i within room =
        grind (
          arith,
          common_steps,
          given_as,
          choice_given,
          first_of-same,
          given,
          first_of-flat_map,
          looped base next stands m,
        )

    loop_means : Means (loop greedy body) (λ i. up_to greedy B (length x.reading.units - i) i)
    loop_means = grind (arith, common_steps, looped)

  repeated_means : (least : ℕ) (most : Option ℕ) (greedy : Bool) (e : Expression) → IsBounded least most e
      → Means (compile e) (λ i. ends x.reading e i)
      → Means (repeated least most greedy (compile e))
      (λ i. flat_map (λ j. further x.reading least most greedy (λ k. ends x.reading e k) j)
      (rounds (λ k. ends x.reading e k) least i))
  repeated_means least None greedy e bounded h =
      search (rules, rounds_still, still, chained_means, copies_mean, loop_means, advances_one)
  repeated_means least (Some most) greedy e bounded h =
      search (rules, rounds_still, still, chained_means, copies_mean, optional_means)

  -- An expression's rows mean its ends.
  pub compile_means : (e : Expression) → IsLoopSafe e → Means (compile e) (λ i. ends x.reading e i)
  unfolding compile ends
  compile_means Expression.Empty safe = straight_means
  compile_means (Expression.Class set) safe = class_means set
  compile_means (Expression.Look look) safe = look_means look
  compile_means (Expression.Concat a b) safe =
      chained_means (still x.reading a) (compile_means a safe.0) (compile_means b safe.1)
  compile_means (Expression.Alternate a b) safe = either_means (compile_means a safe.0) (compile_means b safe.1)
  compile_means (Expression.Repeat least most greedy body) safe =
      repeated_means least most greedy body safe.0 (compile_means body safe.1)
