-- Where the match begins whose end is the preferred one: where what is found begins.
use Rattle.rx_spec.proofs.Prelude.{common_steps, ◌≡◌, ℕ, ◌+◌, ◌-◌, ◌<◌, ◌≤◌, true, ◌==◌, Option, Some, None, List}
use Rattle.rx_spec.proofs.Prelude.{length, refl, ap, ◌∙◌, arith, and_parts, eqb-true, false_from_ne_true}
use Rattle.rx_spec.proofs.Prelude.{slice_get-get_or, get_or, Contains, list_any, range_with_len, Expression, IsLoopSafe}
use Rattle.rx_spec.proofs.Prelude.{ends, Anchored, Query, Match, is_anchored, reading, HalfMatch, admitted, first_of}
use Rattle.rx_spec.proofs.Prelude.{candidate}
use Rattle.rx_spec.specs.Found.{admits}
use Rattle.rx_spec.specs.declared.Direction.{Direction}
use Rattle.rx_lemmas.proofs.FoundLaws.{IsFound, candidate_none, find_is}
use Rattle.rx_lemmas.proofs.Ranges.{range_none, range_first_at}
use Rattle.rx_lemmas.proofs.Reaches.{reaches_sound, reaches_lie}
use Rattle.rx_meaning.specs.Mirrored.{start_to_end, least_start}
use Rattle.rx_lemmas.proofs.ReadUnits.{All-got}
use Rattle.rx_meaning.proofs.Scan.{PlanQuery}
use Rattle.rx_meaning.proofs.NfaStarts.{edge_alone}
use Rattle.rx_meaning.proofs.OneEnd.{any_end, end_any}
use Rattle.rx_meaning.proofs.EndStarts.{always, Begins}

admits_start : (mode : Anchored) (start p k : ℕ) → is_anchored mode ≡ true → admits mode start p k ≡ true → p ≡ start
admits_start Anchored.No start p k a e = absurd (cc)
admits_start Anchored.Yes start p k a e = eqb-true p start e
admits_start (Anchored.Pattern pattern) start p k a e = eqb-true p start (and_parts (p == start) (k == pattern) e).0

admitted_anywhere : (q : Query) (n p k : ℕ) → q.mode ≡ Anchored.No → q.start ≤ p → p ≤ q.end → k < n
    → admitted q n p k ≡ true
admitted_anywhere q n p k m a b c = grind (arith, common_steps)

module _ (a : PlanQuery) (m : Match) (is : IsFound a.expressions a.plan.line_terminator a.query m) where
  abbrev e : Expression
  e = is.matches.expression

  abbrev forward_ends : ℕ → Expression → List ℕ
  forward_ends p x = ends (reading Direction.Forward a.plan.line_terminator a.query.haystack) x p

  -- its end is the first of its ends that lies within the span
  ends_there : Contains (forward_ends m.start e) m.end × (m.end ≤ a.query.end)
  ends_there = grind (arith, common_steps, find_is)

  in_order : m.start ≤ m.end
  in_order =
      let r = reading Direction.Forward a.plan.line_terminator a.query.haystack in
      let safe = All-got IsLoopSafe a.expressions m.pattern e a.safe is.matches.there in
      let high = is.high in
      let inside = a.inside in
      let lies = reaches_lie r e m.start m.end (omega arith) (reaches_sound r e m.start m.end safe ends_there.0) in
      omega arith

  -- no other match that ends there begins earlier, or there with a lower pattern
  abbrev starts : ℕ → ℕ → Option HalfMatch
  starts p k = start_to_end a.expressions a.plan.line_terminator (record a.query { end = m.end }) p k

  no_other : a.query.mode ≡ Anchored.No → (p k : ℕ) → a.query.start ≤ p → p ≤ m.start → k < length a.expressions
      → candidate a.expressions a.plan.line_terminator a.query p k ≡ None → starts p k ≡ None
  no_other mode p k low high within none =
      let x = get_or a.expressions k Expression.Empty in
      let got = slice_get-get_or a.expressions k Expression.Empty within in
      let least = is.high in
      let not_there = false_from_ne_true (list_any (λ j. j == m.end) (forward_ends p x))
      (λ h. candidate_none a.expressions a.plan.line_terminator a.query p k x m.end none
      (admitted_anywhere a.query (length a.expressions) p k mode low (omega arith) within) got
      (any_end m.end (forward_ends p x) h) ends_there.1) in
      grind (arith, common_steps)

  found_there : starts m.start m.pattern ≡ Some (record { pattern = m.pattern; offset = m.start })
  found_there = grind (arith, common_steps, end_any, ends_there)

  least_found : a.query.mode ≡ Anchored.No
      → least_start a.expressions a.plan.line_terminator (record a.query { end = m.end })
      ≡ Some (record { pattern = m.pattern; offset = m.start })
  least_found mode =
      let n = length a.expressions in
      let first = a.query.start in
      let low = is.low in
      let order = in_order in
      let pattern_low = is.pattern_low in
      let all : ℕ → Option HalfMatch = λ p. first_of (starts p) (range_with_len 0 n) in
      let told : HalfMatch = record { pattern = m.pattern; offset = m.start } in
      let zeroth : (k : ℕ) → 0 + k ≡ k = λ k. omega arith in
      let place : first + (m.start - first) ≡ m.start = omega arith in
      let here : all m.start ≡ Some told
      = range_first_at (starts m.start) m.pattern 0 n told pattern_low
      (ap (starts m.start) (zeroth m.pattern) ∙ found_there)
      (λ k l. ap (starts m.start) (zeroth k)
      ∙ no_other mode m.start k low (omega arith) (omega arith) (is.lower k l)) in
      range_first_at all (m.start - first) first (m.end + 1 - first) told (omega arith) (ap all place ∙ here)
      (λ i l. range_none (starts (first + i)) 0 n (λ k h. ap (starts (first + i)) (zeroth k)
      ∙ no_other mode (first + i) k (omega arith) (omega arith) h
      (is.earlier (first + i) k (omega arith) (omega arith) h)))

  -- where one start serves all searches, it begins at the edge
  at_edge : always a ≡ true → m.start ≡ a.query.start
  at_edge edge = grind (arith, common_steps, edge_alone)

  pub found_begins : Begins a m.pattern m.end
  found_begins = grind (arith, common_steps, in_order, ends_there, admits_start, and_parts, at_edge, least_found)

  pub found_start : found_begins.start ≡ m.start
  unfolding found_begins
  found_start = refl
