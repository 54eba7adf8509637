-- What the starts of a plan's NFA give, by the mode of a search.
use Rattle.rx_spec.proofs.Prelude.{rules, common_steps, ◌≡◌, ℕ, zero, suc, ◌+◌, ◌-◌, ◌<◌, ◌≤◌, Bool, true, false}
use Rattle.rx_spec.proofs.Prelude.{if◌then◌else◌, Option, Some, List, [], ◌∷◌, ◌++◌, length, map, ap, sym, ◌∙◌, subst}
use Rattle.rx_spec.proofs.Prelude.{arith, length-append, eqb-true, and_parts, map-id, All-map, All-weaker, none-some}
use Rattle.rx_spec.proofs.Prelude.{same_Some, All, slice_get, option_and_then, list_all, range_with_len, Expression}
use Rattle.rx_spec.proofs.Prelude.{IsLoopSafe, ends, begins_with_edge, Anchored, reading, in_order, first_of, Nfa}
use Rattle.rx_spec.proofs.Prelude.{nfa_of, read_as, lead_in, is_always_start_anchored, nfa_start}
use Rattle.rx_plan.specs.Plans.{plan_nfa}
use Rattle.rx_spec.specs.declared.Direction.{Direction}
use Rattle.rx_lemmas.proofs.Firsts.{by_test}
use Rattle.rx_lemmas.proofs.Mirrors.{IsLoopSafe-mirror}
use Rattle.rx_lemmas.proofs.Patterns.{pattern_part, anchored_part, unanchored_part, nfa_rows}
use Rattle.rx_lemmas.proofs.Ranges.{range_alike}
use Rattle.rx_lemmas.proofs.RowPlaces.{Stands, stands-left, stands-right, stands_all}
use Rattle.rx_lemmas.proofs.ReadUnits.{All-got}
use Rattle.rx_meaning.proofs.FirstSuccess.{first_of-places}
use Rattle.rx_meaning.proofs.Solution.{Valued, given}
use Rattle.rx_meaning.proofs.StartRows.{pattern_worth, entries_count, entry_gives, start_of_all_gives, lead_in_gives}
use Rattle.rx_meaning.proofs.Edge.{edge_ends}
use Rattle.rx_meaning.proofs.OneStart.{one_start}
use Rattle.rx_meaning.proofs.Scan.{valued, PlanQuery, scan_of}

-- the three parts stand in an NFA's rows
module _ (direction : Direction) (es : List Expression) where
  front_stands : Stands (nfa_rows direction es) 0 ((pattern_part es).rows ++ (anchored_part es).rows)
  front_stands =
      stands-left (nfa_rows direction es) 0 ((pattern_part es).rows ++ (anchored_part es).rows)
      (unanchored_part direction es).rows (stands_all (nfa_rows direction es))

  patterns_stand : Stands (nfa_rows direction es) 0 (pattern_part es).rows
  patterns_stand = stands-left (nfa_rows direction es) 0 (pattern_part es).rows (anchored_part es).rows front_stands

  anchored_stands : Stands (nfa_rows direction es) (length (pattern_part es).rows) (anchored_part es).rows
  anchored_stands = grind (arith, common_steps, stands-right, front_stands)

  unanchored_stands : Stands (nfa_rows direction es) (length (pattern_part es).rows + length (anchored_part es).rows)
      (unanchored_part direction es).rows
  unanchored_stands =
      let front = (pattern_part es).rows ++ (anchored_part es).rows in
      let place : 0 + length front ≡ length (pattern_part es).rows + length (anchored_part es).rows
      = omega (arith, length-append (pattern_part es).rows (anchored_part es).rows) in
      grind (arith, common_steps, nfa_rows, unanchored_part, stands-right, stands_all)

safe_to_read : (direction : Direction) (e : Expression) → IsLoopSafe e → IsLoopSafe (read_as direction e)
safe_to_read Direction.Forward e safe = safe
safe_to_read Direction.Reverse e safe = IsLoopSafe-mirror e safe

module _ {V : Type 0} (a : PlanQuery) (direction : Direction) (worth : ℕ → ℕ → Option V) where
  abbrev x : Valued V
  x = valued (scan_of a direction) worth

  abbrev nfa : Nfa
  nfa = plan_nfa a.plan direction a.expressions

  -- the expressions as they are read
  abbrev pub read : List Expression
  read = map (read_as direction) a.expressions

  read_safe : All IsLoopSafe read
  read_safe = search (rules, All-map, All-weaker, safe_to_read)

  -- at a place, what pattern k is worth, and the first worth of all
  abbrev pub one_worth : ℕ → ℕ → Option V
  one_worth i k =
      option_and_then
      (λ e. first_of (λ j. worth k j) (ends (reading direction a.plan.line_terminator a.query.haystack) e i))
      (slice_get (map (read_as direction) a.expressions) k)

  abbrev pub all_worth : ℕ → Option V
  all_worth i = first_of (one_worth i) (range_with_len 0 (length a.expressions))

  pattern_gives : (k i : ℕ) → i ≤ length (in_order direction a.query.haystack)
      → option_and_then (λ q. given x q i) (slice_get nfa.start_patterns k) ≡ one_worth i k
  unfolding nfa_of
  pattern_gives k i within =
      let number : 0 + k ≡ k = omega arith in
      entry_gives x read read_safe 0 0 (patterns_stand direction read) i within k
      ∙ ap (λ m. option_and_then (pattern_worth x i m) (slice_get read k)) number

  anchored_gives : (i : ℕ) → i ≤ length (in_order direction a.query.haystack)
      → given x nfa.start_anchored i ≡ all_worth i
  unfolding nfa_of
  anchored_gives i within =
      grind (
        arith,
        common_steps,
        pattern_part,
        given,
        entries_count,
        start_of_all_gives,
        anchored_stands,
        first_of-places,
        pattern_gives,
      )

  lead_gives : (i : ℕ) → i ≤ length (in_order direction a.query.haystack)
      → list_all (begins_with_edge direction) read ≡ false
      → given x nfa.start_unanchored i
      ≡ first_of (λ p. given x nfa.start_anchored p)
      (range_with_len i (suc (length (in_order direction a.query.haystack) - i)))
  unfolding nfa_of
  lead_gives i within edge =
      let base = length (pattern_part read).rows + length (anchored_part read).rows in
      let anchored = (anchored_part read).entry in
      let m = length (in_order direction a.query.haystack) - i in
      let part : unanchored_part direction read ≡ lead_in false base anchored
      = ap (λ v. lead_in v base anchored) edge in
      subst (λ u. given x u.entry i ≡ first_of (λ p. given x anchored p) (range_with_len i (suc m))) (sym part)
      (lead_in_gives x base anchored
      (subst (λ u. Stands (nfa_rows direction read) base u.rows) part (unanchored_stands direction read))
      (scan_of a direction).bytes m i (omega arith))

  -- what a search of each mode gives at its start: where one start serves all searches, this place alone
  abbrev pub mode_worth : Anchored → ℕ → Option V
  mode_worth Anchored.No i =
      if is_always_start_anchored (plan_nfa a.plan direction a.expressions)
      then all_worth i
      else first_of all_worth (range_with_len i (suc (length (in_order direction a.query.haystack) - i)))
  mode_worth Anchored.Yes i = all_worth i
  mode_worth (Anchored.Pattern k) i = one_worth i k

  pub start_gives : (mode : Anchored) (i : ℕ) → i ≤ length (in_order direction a.query.haystack)
      → option_and_then (λ q. given x q i) (nfa_start (plan_nfa a.plan direction a.expressions) mode)
      ≡ mode_worth mode i
  start_gives Anchored.No i within =
      let size = length (in_order direction a.query.haystack) in
      let always = is_always_start_anchored nfa in
      let further = first_of all_worth (range_with_len i (suc (size - i))) in
      by_test always
      (λ t. ap (λ q. given x q i) (sym (eqb-true nfa.start_anchored nfa.start_unanchored t)) ∙ anchored_gives i within
      ∙ sym (ap (λ v. if v then all_worth i else further) t))
      (λ f. lead_gives i within (sym (one_start direction a.plan.line_terminator false a.expressions) ∙ f)
      ∙ range_alike (λ p. given x nfa.start_anchored p) all_worth i (suc (size - i))
      (λ k l. anchored_gives (i + k) (omega arith))
      ∙ sym (ap (λ v. if v then all_worth i else further) f))
  start_gives Anchored.Yes i within = anchored_gives i within
  start_gives (Anchored.Pattern k) i within = pattern_gives k i within

-- Where one start serves all searches, an expression matches at the text's edge alone.
passes_at : (p : Expression → Bool) (es : List Expression) (k : ℕ) (e : Expression) → list_all p es ≡ true
    → slice_get es k ≡ Some e → p e ≡ true
passes_at p [] k e h g = absurd (none-some e g)
passes_at p (x ∷ es) zero e h g = subst (λ y. p y ≡ true) (same_Some x e g) (and_parts (p x) (list_all p es) h).0
passes_at p (x ∷ es) (suc k) e h g = passes_at p es k e (and_parts (p x) (list_all p es) h).1 g

pub edge_alone : (a : PlanQuery) → is_always_start_anchored (plan_nfa a.plan Direction.Forward a.expressions) ≡ true
    → (k p : ℕ) (e : Expression) → slice_get a.expressions k ≡ Some e → 0 < p → p ≤ length a.query.haystack
    → ends (reading Direction.Forward a.plan.line_terminator a.query.haystack) e p ≡ []
edge_alone a always k p e got above within =
    let t = a.plan.line_terminator in
    let edges : list_all (begins_with_edge Direction.Forward) a.expressions ≡ true
    = ap (list_all (begins_with_edge Direction.Forward)) (sym (map-id a.expressions))
    ∙ sym (one_start Direction.Forward t false a.expressions) ∙ always in
    edge_ends (reading Direction.Forward t a.query.haystack) e (All-got IsLoopSafe a.expressions k e a.safe got)
    (passes_at (begins_with_edge Direction.Forward) a.expressions k e edges got) p above within
