-- A search in reverse tells the least start of a match that ends where it begins.
use Rattle.rx_spec.proofs.Prelude.{common_steps, ◌≡◌, ℕ, suc, ◌+◌, ◌-◌, ◌<◌, ◌≤◌, ⊎_elim, false, ◌==◌, Option, Some}
use Rattle.rx_spec.proofs.Prelude.{None, Ok, List, [], ◌∷◌, length, refl, ap, ap₂, sym, ◌∙◌, arith, length-reverse}
use Rattle.rx_spec.proofs.Prelude.{slice_get-map, both_ways, slice_get, option_or, option_and_then, list_any}
use Rattle.rx_spec.proofs.Prelude.{range_with_len, Expression, IsLoopSafe, mirror, ends, Anchored, reading, HalfMatch}
use Rattle.rx_spec.proofs.Prelude.{first_of, back_from, read_as, State}
use Rattle.rx_plan.specs.Plans.{plan_build}
use Rattle.std.specs.Option.{option_map}
use Rattle.rx_spec.specs.declared.Direction.{Direction}
use Rattle.rx_lemmas.proofs.Mirrors.{ends_mirrored}
use Rattle.rx_lemmas.proofs.Ranges.{range_none, range_alike, range_push}
use Rattle.rx_lemmas.proofs.ReadUnits.{All-got, unit_at}
use Rattle.rx_meaning.specs.Preference.{build_half_search}
use Rattle.rx_meaning.specs.Mirrored.{MirroredSearch, StartOfEnd, start_if, start_to_end, least_start}
use Rattle.rx_meaning.proofs.FirstSuccess.{first_of-nil, first_of-alike, first_of-map}
use Rattle.rx_meaning.proofs.Scan.{Scan, read_in, StandsAt, step_at, PlanQuery, plan_query, scan_of}
use Rattle.rx_meaning.proofs.NfaStarts.{one_worth, mode_worth, start_gives}
use Rattle.rx_meaning.proofs.Steps.{CutsNothing}
use Rattle.rx_meaning.proofs.LastWalks.{label_tells, Foretold}
use Rattle.rx_meaning.proofs.StartStates.{begin_state, begin_gives, last_told}
use Rattle.rx_meaning.proofs.OneEnd.{exactly, ends_exactly, any_end, end_any, tells, dead_tells, tells_here}
use Rattle.rx_meaning.proofs.OneEnd.{tells_later}
use Rattle.rx_meaning.proofs.QuitBytes.{forward_ended, reverse_told}

abbrev half_at : ℕ → ℕ → HalfMatch
half_at offset k = record { pattern = k; offset = offset }

-- what a label tells is its first pattern
label_first : (label : List ℕ) (offset : ℕ) → option_map (half_at offset) (slice_get label 0) ≡ label_tells label offset
label_first [] offset = refl
label_first (k ∷ ks) offset = refl

-- ---- of all places up to a limit, what is given for the furthest

module _ (c : Scan) (all : (s : State) (i : ℕ) → CutsNothing c.build.nfa c.build.kind s (unit_at (read_in c) i))
    (size limit : ℕ) (inside : limit ≤ size) where
  abbrev told_at : State → ℕ → ℕ → Option HalfMatch
  told_at s i p = option_map (half_at p) (tells c s i (size - p))

  abbrev furthest : State → ℕ → Option HalfMatch
  furthest s i = first_of (told_at s i) (range_with_len (size - limit) (limit + 1 - i))

  furthest_steps : (s : State) (i : ℕ) → StandsAt c s i → i ≤ limit
      → furthest s i ≡ option_or (furthest (step_at c s i) (i + 1)) (label_tells (step_at c s i).label (size - i))
  furthest_steps s i at within =
      let next = step_at c s i in
      let n = limit - i in
      let first = size - limit in
      let count : limit + 1 - i ≡ suc n = omega arith in
      let fewer : n ≡ limit + 1 - (i + 1) = omega arith in
      let here : first + n ≡ size - i = omega arith in
      let back : size - (size - i) ≡ i = omega arith in
      let later : (k : ℕ) → k < n → told_at s i (first + k) ≡ told_at next (i + 1) (first + k)
      = λ k l. ap (option_map (half_at (first + k)))
      (sym (tells_later c s i (size - (first + k)) at (omega arith) (all s i))) in
      ap (λ m. first_of (told_at s i) (range_with_len first m)) count
      ∙ range_push (told_at s i) first n
      ∙ ap₂ option_or
      (range_alike (told_at s i) (told_at next (i + 1)) first n later
      ∙ ap (λ m. first_of (told_at next (i + 1)) (range_with_len first m)) fewer)
      (ap (told_at s i) here
      ∙ ap (λ j. option_map (half_at (size - i)) (tells c s i j)) back
      ∙ ap (option_map (half_at (size - i))) (sym (tells_here c s i at))
      ∙ label_first next.label (size - i))

  foretold : Foretold c Direction.Reverse size limit
  foretold = record {
    tells = furthest;
    dead = λ s i d.
        range_none (told_at s i) (size - limit) (limit + 1 - i)
        (λ k l. ap (option_map (half_at (size - limit + k))) (dead_tells c s i (size - (size - limit + k)) d));
    past = λ s.
        let none : limit + 1 - (limit + 1) ≡ 0 = omega arith in
        ap (λ m. first_of (told_at s (limit + 1)) (range_with_len (size - limit) m)) none
        ∙ first_of-nil (told_at s (limit + 1));
    steps = furthest_steps;
  }

-- ---- the start row

-- what a mirrored pattern gives is the start of a match that ends at the end
pattern_mirrored : (t : ℕ) (hay : List ℕ) (end p k : ℕ) (e : Expression) → IsLoopSafe e
    → (end ≤ length hay) × (p ≤ length hay)
    → let back = ends (reading Direction.Reverse t hay) (mirror e) (length hay - end) in
    option_map (half_at p) (first_of (λ j. exactly (length hay - p) k j) back) ≡ start_if t hay end p k e
pattern_mirrored t hay end p k e safe within =
    let both = ends_mirrored t hay e p end safe within.1 within.0 in
    let forward = ends (reading Direction.Forward t hay) e p in
    let back = ends (reading Direction.Reverse t hay) (mirror e) (length hay - end) in
    let same : list_any (λ j. j == length hay - p) back ≡ list_any (λ j. j == end) forward
    = both_ways (list_any (λ j. j == length hay - p) back) (list_any (λ j. j == end) forward)
    (λ h. end_any end forward (both.1 (any_end (length hay - p) back h)))
    (λ h. end_any (length hay - p) back (both.0 (any_end end forward h))) in
    grind (arith, common_steps, ends_exactly)

module _ (a : PlanQuery) where
  abbrev size : ℕ
  size = length a.query.haystack

  abbrev t : ℕ
  t = a.plan.line_terminator

  -- what the start state gives for a start in the span
  start_tells : (p : ℕ) → p ≤ length a.query.haystack → a.query.mode ≡ Anchored.Yes
      → option_map (half_at p) (tells (scan_of a Direction.Reverse) (begin_state a Direction.Reverse)
      (length a.query.haystack - a.query.end) (length a.query.haystack - p))
      ≡ first_of (start_to_end a.expressions a.plan.line_terminator a.query p) (range_with_len 0 (length a.expressions))
  start_tells p within mode =
      let end = a.query.end in
      let worth = exactly (size - p) in
      let i = size - end in
      let patterns = range_with_len 0 (length a.expressions) in
      let one = one_worth a Direction.Reverse worth i in
      let each : (k : ℕ) (e : Option Expression) → slice_get a.expressions k ≡ e
      → option_map (half_at p) (option_and_then (λ e. first_of (λ j. worth k j)
      (ends (reading Direction.Reverse t a.query.haystack) e i)) (option_map (read_as Direction.Reverse) e))
      ≡ option_and_then (start_if t a.query.haystack end p k) e = of_pattern in
      ap (option_map (half_at p))
      (begin_gives a Direction.Reverse worth i
      ∙ start_gives a Direction.Reverse worth a.query.mode i (rw length-reverse (omega arith))
      ∙ ap (λ m. mode_worth a Direction.Reverse worth m i) mode)
      ∙ first_of-map (half_at p) one patterns
      ∙ first_of-alike (λ k. option_map (half_at p) (one k)) (start_to_end a.expressions t a.query p) patterns
      (λ k. ap (λ e. option_map (half_at p) (option_and_then (λ e. first_of (λ j. worth k j)
      (ends (reading Direction.Reverse t a.query.haystack) e i)) e))
      (slice_get-map (read_as Direction.Reverse) a.expressions k)
      ∙ each k (slice_get a.expressions k) refl)
    where
      of_pattern : (k : ℕ) (e : Option Expression) → slice_get a.expressions k ≡ e
          → option_map (half_at p) (option_and_then (λ e. first_of (λ j. exactly (length a.query.haystack - p) k j)
          (ends (reading Direction.Reverse a.plan.line_terminator a.query.haystack) e
          (length a.query.haystack - a.query.end))) (option_map (read_as Direction.Reverse) e))
          ≡ option_and_then (start_if a.plan.line_terminator a.query.haystack a.query.end p k) e
      of_pattern k None got = refl
      of_pattern k (Some e) got =
          pattern_mirrored a.plan.line_terminator a.query.haystack a.query.end p k e
          (All-got IsLoopSafe a.expressions k e a.safe got) (a.inside, within)

  reverse_tells : (told : Option HalfMatch) → a.query.start ≤ a.query.end → a.query.mode ≡ Anchored.Yes
      → a.query.earliest ≡ false
      → build_half_search (plan_build a.plan Direction.Reverse a.expressions) Direction.Reverse a.query ≡ Ok told
      → told ≡ least_start a.expressions t a.query
  unfolding foretold
  reverse_tells told order mode last e =
      let q = a.query in
      let limit = size - q.start in
      let c = scan_of a Direction.Reverse in
      let i = size - q.end in
      let s = begin_state a Direction.Reverse in
      let within : limit ≤ size = omega arith in
      let patterns = range_with_len 0 (length a.expressions) in
      let starts : ℕ → Option HalfMatch = λ p. first_of (start_to_end a.expressions t q p) patterns in
      let first : size - limit ≡ q.start = omega arith in
      let count : limit + 1 - i ≡ q.end + 1 - q.start = omega arith in
      ⊎_elim
      (λ (d : (q.end < q.start) × (told ≡ None)). absurd (let past = d.0 in omega arith))
      (λ (g : (q.start ≤ q.end) × (told ≡ furthest c (λ s i. refl) size limit within s i)).
      g.1
      ∙ range_alike (told_at c (λ s i. refl) size limit within s i) starts (size - limit) (limit + 1 - i)
      (λ k l. start_tells (size - limit + k) (omega arith) mode)
      ∙ ap₂ (λ (b n : ℕ). first_of starts (range_with_len b n)) first count)
      (last_told a Direction.Reverse limit (foretold c (λ s i. refl) size limit within) (λ h. omega arith) told last e)

pub mirrored_search_holds : MirroredSearch
mirrored_search_holds p es q told safe bytes order inside e =
    reverse_tells (plan_query p es (back_from q q.end) safe bytes inside) told order refl refl e

pub start_of_end_holds : StartOfEnd
start_of_end_holds p es q end safe bytes inside e =
    let a = plan_query p es q safe bytes inside in
    let told = reverse_told a end e in
    let ended = forward_ended a end e in
    let back = record q { end = end.offset } in
    told.1 ∙ ap Ok (mirrored_search_holds p es back told.0 safe bytes ended.low (omega arith) told.1)
