-- Answers that are made of half searches depend on the span and its neighbours alone: with matches that split a
-- character passed over, joined, one after another, and of a plan.
use Rattle.rx_spec.proofs.Prelude.{common_steps, ◌≡◌, ℕ, zero, suc, ◌+◌, ◌-◌, ◌≤◌, Bool, false, Some, None, Ok, Err}
use Rattle.rx_spec.proofs.Prelude.{if◌then◌else◌, List, [], ◌∷◌, ◌++◌, Option, refl, ap, ap₂, sym, ◌∙◌, subst, arith}
use Rattle.rx_spec.proofs.Prelude.{flat_map, Contains, ◌==◌, ◌||◌, not, AreBytes, Query, Match, HalfMatch, is_anchored}
use Rattle.rx_spec.proofs.Prelude.{Build, power, build_settings, Table, IsSound, HalfAnswer, half_search, Item}
use Rattle.rx_spec.proofs.Prelude.{OverlappingMatches, overlapping, is_split, narrower, is_narrowest, unless_split}
use Rattle.rx_spec.proofs.Prelude.{skip_splits, split_limit, skips_splits, half_unsplit, item_unsplit, Answer, match_at}
use Rattle.rx_spec.proofs.Prelude.{with_start, back_from, with_end, joined_search, join, is_repeat, unless_repeat}
use Rattle.rx_spec.proofs.Prelude.{and_then, iterate_from, is_always_start_anchored}
use Rattle.rx_plan.specs.Plans.{plan_nfa, plan_build}
use Rattle.rx_spec.specs.Splits.{is_boundary_byte, overlapping_unsplit}
use Rattle.rx_spec.specs.declared.Direction.{Direction}
use Rattle.rx_lemmas.proofs.WalkBounds.{half_met, half_in_span}
use Rattle.rx_lemmas.proofs.Firsts.{by_test, Contains-here, Contains-there}
use Rattle.rx_lemmas.proofs.OverlappingBounds.{overlapping_in_span}
use Rattle.rx_meaning.specs.Bounds.{SameSpan, SpanDecidesUnsplit, SpanDecidesOverlappingUnsplit, SpanDecidesJoin}
use Rattle.rx_meaning.specs.Bounds.{SpanDecidesIterate, SpanDecidesOutcome}
use Rattle.rx_meaning.specs.Preference.{build_half_search}
use Rattle.rx_meaning.proofs.JoinedSearches.{joined_search_holds}
use Rattle.rx_meaning.proofs.SplitBounds.{half_unsplit_in_bounds}
use Rattle.rx_meaning.proofs.JoinBounds.{join_in_bounds}
use Rattle.rx_meaning.proofs.SpanQueries.{same_half, same_overlapping, other, is_other, to_other, same_after}
use Rattle.rx_meaning.proofs.SpanQueries.{narrower_same, later_same, back_same}
use Rattle.rx_lemmas.proofs.FoundLaws.{and_then-same}

-- ---- with matches that split a character passed over

narrower_other : (direction : Direction) (p : Query) (haystack : List ℕ)
    → other (narrower direction p) haystack ≡ narrower direction (other p haystack)
narrower_other Direction.Forward p haystack = refl
narrower_other Direction.Reverse p haystack = refl

unless_same : (direction : Direction) (p : Query) (haystack : List ℕ) (o again other_again : HalfAnswer)
    → ((h : HalfMatch) → o ≡ Ok (Some h) → is_split p.haystack h.offset ≡ is_split haystack h.offset)
    → ((h : HalfMatch) → o ≡ Ok (Some h) → is_narrowest direction p ≡ false → again ≡ other_again)
    → unless_split direction p o again ≡ unless_split direction (other p haystack) o other_again
unless_same direction p haystack (Err error) again other_again split same = refl
unless_same direction p haystack (Ok None) again other_again split same = refl
unless_same direction p haystack (Ok (Some h)) again other_again split same = grind (arith, common_steps)

module _ (t : Table) (direction : Direction) where
  abbrev search : Query → HalfAnswer
  search q = half_search t.machine t.settings direction q

  skips_same : (n : ℕ) (p : Query) (haystack : List ℕ) → SameSpan p (other p haystack)
      → skip_splits search direction n p ≡ skip_splits search direction n (other p haystack)
  unfolding skip_splits
  skips_same zero p haystack same = refl
  skips_same (suc n) p haystack same =
      let later = narrower direction p in
      let other_later = narrower direction (other p haystack) in
      let whole = ap (skip_splits search direction n) (narrower_other direction p haystack) in
      unless_same direction p haystack (search p) (skip_splits search direction n later)
      (skip_splits search direction n other_later)
      (λ h e. let lies = half_in_span t.machine t.settings direction p h e in
      ap (λ byte. not (is_boundary_byte byte)) (same_after p haystack same h.offset lies.0 lies.1))
      (λ h e wide. let order = (half_met t.machine t.settings direction p h e).0 in
      skips_same n later haystack (narrower_same p haystack same direction order wide) ∙ whole)
      ∙ ap (λ o. unless_split direction (other p haystack) o (skip_splits search direction n other_later))
      (same_half t.machine t.settings direction p (other p haystack) same)

  unsplit_same : (p : Query) (haystack : List ℕ) → SameSpan p (other p haystack)
      → half_unsplit t direction p ≡ half_unsplit t direction (other p haystack)
  unsplit_same p haystack same =
      ap₂ (λ x y. if skips_splits t then x else y) (skips_same (split_limit p) p haystack same)
      (same_half t.machine t.settings direction p (other p haystack) same)

pub span_decides_unsplit : SpanDecidesUnsplit
span_decides_unsplit t direction p q same = grind (arith, common_steps, unsplit_same, to_other, is_other)

-- what is told, where those that split a character are left out
module _ (p : Query) (haystack : List ℕ) (same : SameSpan p (other p haystack)) where
  item_same : (x : Item) → ((h : HalfMatch) → x ≡ Item.Reported h → (p.start ≤ h.offset) × (h.offset ≤ p.end))
      → item_unsplit p x ≡ item_unsplit (other p haystack) x
  item_same Item.Skipped lies = refl
  item_same (Item.Reported h) lies = grind (arith, common_steps, same_after)

  items_same : (items : List Item)
      → ((h : HalfMatch) → Contains items (Item.Reported h) → (p.start ≤ h.offset) × (h.offset ≤ p.end))
      → flat_map (item_unsplit p) items ≡ flat_map (item_unsplit (other p haystack)) items
  items_same [] lies = refl
  items_same (x ∷ xs) lies =
      ap₂ (λ front back. front ++ back)
      (item_same x (λ h e. lies h (subst (Contains (x ∷ xs)) e (Contains-here x xs))))
      (items_same xs (λ h c. lies h (Contains-there x xs (Item.Reported h) c)))

pub span_decides_overlapping_unsplit : SpanDecidesOverlappingUnsplit
span_decides_overlapping_unsplit t direction p q same =
    let alike = to_other p q same in
    let matches = overlapping t.machine t.settings direction p in
    let sifted = λ (items : List Item) (o : OverlappingMatches).
    if skips_splits t then record { items = items; ending = o.ending } else o in
    ap (λ items. sifted items matches)
    (items_same p q.haystack alike matches.items (overlapping_in_span t.machine t.settings direction p))
    ∙ ap (λ o. sifted (flat_map (item_unsplit (other p q.haystack)) o.items) o)
    (same_overlapping t.machine t.settings direction p (other p q.haystack) alike)
    ∙ ap (overlapping_unsplit t direction) (is_other p q same)

-- ---- joined

-- a search depends on the span and its neighbours alone
abbrev IsOfSpan : (Query → HalfAnswer) → Type 0
IsOfSpan search = (p : Query) (haystack : List ℕ) → SameSpan p (other p haystack)
    → search p ≡ search (other p haystack)

module _ (f r : Query → HalfAnswer) (always : Bool) (ends : IsOfSpan f) (starts : IsOfSpan r) where
  joined_same : (p q : Query) → SameSpan p q
      → ((end : HalfMatch) → f p ≡ Ok (Some end) → (p.start ≤ end.offset) × (end.offset ≤ p.end))
      → joined_search f r always p ≡ joined_search f r always q
  joined_same p q same lies =
      by_answer (f p) refl
      ∙ ap (with_end r always (other p q.haystack)) (ends p q.haystack alike)
      ∙ ap (joined_search f r always) (is_other p q same)
    where
      alike : SameSpan p (other p q.haystack)
      alike = to_other p q same

      by_answer : (o : HalfAnswer) → f p ≡ o → with_end r always p o ≡ with_end r always (other p q.haystack) o
      by_answer (Err error) is = refl
      by_answer (Ok None) is = refl
      by_answer (Ok (Some end)) is =
          let inside = lies end is in
          let here = (end.offset == p.start) || is_anchored p.mode || always in
          ap (λ o. if here then match_at end.pattern p.start end.offset else with_start end o)
          (starts (back_from p end.offset) q.haystack
          (back_same p q.haystack alike end.offset inside.0 inside.1))

pub span_decides_join : SpanDecidesJoin
span_decides_join f r sound p q bytes same =
    joined_same (half_unsplit f Direction.Forward) (half_unsplit r Direction.Reverse) f.is_always_start_anchored
    (unsplit_same f Direction.Forward) (unsplit_same r Direction.Reverse) p q same
    (λ end is. let b = half_unsplit_in_bounds f sound Direction.Forward p end bytes is in (b.low, b.high))

-- ---- of a plan

half_of_span : (b : Build) (direction : Direction) → IsOfSpan (build_half_search b direction)
half_of_span b direction p haystack same = same_half (power b) (build_settings b) direction p (other p haystack) same

pub span_decides_outcome : SpanDecidesOutcome
span_decides_outcome p es q r safe bytes inside other_bytes other_inside same =
    let b = plan_build p Direction.Forward es in
    let c = plan_build p Direction.Reverse es in
    let last = record q { earliest = false } in
    let alike : SameSpan last (record r { earliest = false }) = record {
      start = same.start;
      end = same.end;
      mode = same.mode;
      earliest = refl;
      bytes = same.bytes;
      before = same.before;
      after = same.after;
    } in
    sym (joined_search_holds p es q safe bytes inside)
    ∙ joined_same (build_half_search b Direction.Forward) (build_half_search c Direction.Reverse)
    (is_always_start_anchored (plan_nfa p Direction.Forward es)) (half_of_span b Direction.Forward)
    (half_of_span c Direction.Reverse) last (record r { earliest = false }) alike
    (half_in_span (power b) (build_settings b) Direction.Forward last)
    ∙ joined_search_holds p es r safe other_bytes other_inside

-- ---- one after another

module _ (f r : Table) (sound : IsSound f) (sound_reverse : IsSound r) where
  -- what is answered lies in the span, also where the search is made again
  answer_lies : (p : Query) → AreBytes p.haystack → (last_end : Option ℕ) (o : Answer) → join f r p ≡ o → (m : Match)
      → unless_repeat (join f r) p last_end o ≡ Ok (Some m) → (p.start ≤ m.end) × (m.end ≤ p.end)
  answer_lies p bytes last_end (Err error) is m e = absurd (cc)
  answer_lies p bytes last_end (Ok None) is m e = absurd (cc)
  answer_lies p bytes last_end (Ok (Some found)) is m e =
      let later = record p { start = p.start + 1 } in
      let made = λ (v : Bool). if v then join f r later else Ok (Some found) in
      by_test (is_repeat last_end found)
      (λ t. let b = join_in_bounds f r sound sound_reverse later m bytes (sym (ap made t) ∙ e) in
      (omega arith, b.high))
      (λ t. let b = join_in_bounds f r sound sound_reverse p m bytes (is ∙ sym (ap made t) ∙ e) in
      (omega arith, b.high))

  again_same : (p : Query) (haystack : List ℕ) → AreBytes p.haystack → SameSpan p (other p haystack)
      → (last_end : Option ℕ) (o : Answer) → join f r p ≡ o
      → unless_repeat (join f r) p last_end o ≡ unless_repeat (join f r) (other p haystack) last_end o
  again_same p haystack bytes same last_end (Err error) is = refl
  again_same p haystack bytes same last_end (Ok None) is = refl
  again_same p haystack bytes same last_end (Ok (Some m)) is =
      let b = join_in_bounds f r sound sound_reverse p m bytes is in
      let later = record p { start = p.start + 1 } in
      let order : p.start ≤ p.end = omega arith in
      ap (λ (o : Answer). if is_repeat last_end m then o else Ok (Some m))
      (span_decides_join f r sound later (other later haystack) bytes
      (narrower_same p haystack same Direction.Forward order refl))

  iterate_same : (n : ℕ) (p : Query) (haystack : List ℕ) → AreBytes p.haystack → SameSpan p (other p haystack)
      → (last_end : Option ℕ)
      → iterate_from (join f r) n p last_end ≡ iterate_from (join f r) n (other p haystack) last_end
  unfolding iterate_from
  iterate_same zero p haystack bytes same last_end = refl
  iterate_same (suc n) p haystack bytes same last_end =
      let own = unless_repeat (join f r) p last_end (join f r p) in
      let after = λ (q : Query) (m : Match).
      iterate_from (join f r) n (record q { start = m.end }) (Some m.end) in
      and_then-same own (after p) (after (other p haystack))
      (λ m e. let lies = answer_lies p bytes last_end (join f r p) refl m e in
      iterate_same n (record p { start = m.end }) haystack bytes (later_same p haystack same m.end lies.0 lies.1)
      (Some m.end))
      ∙ ap (λ o. and_then o (after (other p haystack)))
      (again_same p haystack bytes same last_end (join f r p) refl
      ∙ ap (unless_repeat (join f r) (other p haystack) last_end)
      (span_decides_join f r sound p (other p haystack) bytes same))

pub span_decides_iterate : SpanDecidesIterate
span_decides_iterate f r sound sound_reverse p q bytes same = grind (arith, common_steps, iterate_same)
