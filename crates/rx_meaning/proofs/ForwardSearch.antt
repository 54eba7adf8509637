-- The forward half search for the last match tells what is found.
use Rattle.rx_spec.proofs.Prelude.{rules, ◌≡◌, ℕ, suc, ◌+◌, ◌-◌, ◌<◌, ◌≤◌, true, false, if◌then◌else◌, Option, Some}
use Rattle.rx_spec.proofs.Prelude.{None, Ok, List, [], ◌∷◌, length, refl, ap, sym, ◌∙◌, arith, ⊎_elim, common_steps}
use Rattle.rx_spec.proofs.Prelude.{le-leb, map-id, option_or, range_with_len, Anchored, HalfMatch, first_of, found}
use Rattle.rx_spec.proofs.Prelude.{is_always_start_anchored}
use Rattle.rx_plan.specs.Plans.{plan_nfa, plan_build}
use Rattle.std.proofs.lemmas.Bool.{lt-leb}
use Rattle.std.specs.Option.{option_map}
use Rattle.rx_spec.specs.declared.Direction.{Direction}
use Rattle.rx_lemmas.proofs.Firsts.{by_test}
use Rattle.rx_lemmas.proofs.SilentRows.{dead_empty}
use Rattle.rx_meaning.specs.Preference.{build_half_search, end_of, Preference}
use Rattle.rx_meaning.proofs.FirstSuccess.{first_of-nil, first_of-cons, first_of-single, first_of-alike, first_of-none}
use Rattle.rx_meaning.proofs.FirstSuccess.{range_longer}
use Rattle.rx_meaning.proofs.Solution.{Valued, given, given_none}
use Rattle.rx_meaning.proofs.Closures.{first_given}
use Rattle.rx_meaning.proofs.Scan.{Scan, valued, PlanQuery, plan_query, scan_of}
use Rattle.rx_meaning.proofs.NfaStarts.{all_worth, mode_worth, start_gives, edge_alone}
use Rattle.rx_meaning.proofs.Steps.{label_worth, step_gives}
use Rattle.rx_meaning.proofs.LastWalks.{label_tells, Foretold}
use Rattle.rx_meaning.proofs.StartStates.{begin_state, begin_gives, last_told}
use Rattle.rx_meaning.proofs.FoundWorths.{within_end, all_found, mode_found, found_in_mode, found_done}

within_worth : (end k i : ℕ) → i ≤ end → within_end end k i ≡ Some (record { pattern = k; offset = i })
within_worth end k i h = ap (λ v. if v then Some (record { pattern = k; offset = i }) else None) (le-leb i end h)

past_worth : (end k i : ℕ) → end < i → within_end end k i ≡ None
past_worth end k i h = ap (λ v. if v then Some (record { pattern = k; offset = i }) else None) (lt-leb i end h)

-- a label's worth is what it tells
label_told : (end i : ℕ) (label : List ℕ) → i ≤ end → label_worth (within_end end) i label ≡ label_tells label i
label_told end i [] h = first_of-nil (λ (k : ℕ). within_end end k i)
label_told end i (k ∷ ks) h = grind (arith, common_steps, first_of-cons)

module _ (a : PlanQuery) where
  abbrev c : Scan
  c = scan_of a Direction.Forward

  abbrev worth : ℕ → ℕ → Option HalfMatch
  worth = within_end a.query.end

  abbrev x : Valued HalfMatch
  x = valued c worth

  abbrev size : ℕ
  size = length a.query.haystack

  past : (q i : ℕ) → a.query.end < i → given x q i ≡ None
  past q i h = given_none x q i (λ k j low. past_worth a.query.end k j (omega arith))

  foretold : Foretold (scan_of a Direction.Forward) Direction.Forward (length a.query.haystack) a.query.end
  foretold = record {
    tells = λ s i. first_given x i s.rows;
    dead = λ s i d. ap (first_given x i) (dead_empty s d).0 ∙ first_of-nil (λ (q : ℕ). given x q i);
    past = λ s.
        first_of-none (λ q. given x q (a.query.end + 1)) s.rows (λ q. past q (a.query.end + 1) (omega arith));
    steps = λ s i at within.
        step_gives c worth i s refl
        (λ k. (record { pattern = k; offset = i }, within_worth a.query.end k i within)) at
        ∙ ap (option_or _) (label_told a.query.end i _ within);
  }

  -- ---- the start gives what is found

  abbrev t : ℕ
  t = a.plan.line_terminator

  all_is : (p : ℕ) → all_worth a Direction.Forward worth p ≡ all_found a.expressions t a.query p
  all_is p = search (rules, first_of-alike, map-id)

  -- past the span there is nothing
  nothing_past : (p : ℕ) → a.query.end < p → p ≤ size → all_worth a Direction.Forward worth p ≡ None
  nothing_past p h within =
      sym (start_gives a Direction.Forward worth Anchored.Yes p within)
      ∙ past (plan_nfa a.plan Direction.Forward a.expressions).start_anchored p h

  -- and past the edge neither, where one start serves all searches
  nothing_after : is_always_start_anchored (plan_nfa a.plan Direction.Forward a.expressions) ≡ true
      → (p : ℕ) → 0 < p → p ≤ size → all_found a.expressions t a.query p ≡ None
  nothing_after always p above within = grind (arith, common_steps, first_of-none, edge_alone, first_of-nil)

  start_found : a.query.start ≤ a.query.end → (mode : Anchored)
      → mode_worth a Direction.Forward worth mode a.query.start ≡ mode_found a.expressions t a.query mode
  start_found order Anchored.Yes = all_is a.query.start
  start_found order (Anchored.Pattern k) = search (rules, map-id)
  start_found order Anchored.No =
      let start = a.query.start in
      let n = a.query.end - start in
      let every = all_worth a Direction.Forward worth in
      let each = all_found a.expressions t a.query in
      let always = is_always_start_anchored (plan_nfa a.plan Direction.Forward a.expressions) in
      let further = first_of every (range_with_len start (suc (size - start))) in
      by_test always
      (λ e. let one : 1 + n ≡ suc n = omega arith in
      ap (λ v. if v then every start else further) e ∙ all_is start
      ∙ sym (ap (λ m. first_of each (range_with_len start m)) (sym one)
      ∙ range_longer each start 1 n (λ k low high. nothing_after e (start + k) (omega arith) (omega arith))
      ∙ first_of-single each start))
      (λ e. let long : suc (size - start) ≡ suc n + (size - a.query.end) = omega arith in
      ap (λ v. if v then every start else further) e
      ∙ ap (λ m. first_of every (range_with_len start m)) long
      ∙ range_longer every start (suc n) (size - a.query.end)
      (λ k low high. nothing_past (start + k) (omega arith) (omega arith))
      ∙ first_of-alike every each (range_with_len start (suc n)) all_is)

  forward_tells : (told : Option HalfMatch) → a.query.earliest ≡ false
      → build_half_search (plan_build a.plan Direction.Forward a.expressions) Direction.Forward a.query ≡ Ok told
      → told ≡ option_map end_of (found a.expressions t a.query)
  unfolding foretold
  forward_tells told last e =
      let q = a.query in
      let s = begin_state a Direction.Forward in
      ⊎_elim
      (λ (d : (q.end < q.start) × (told ≡ None)). d.1 ∙ sym (found_done a.expressions t q d.0))
      (λ (g : (q.start ≤ q.end) × (told ≡ first_given x q.start s.rows)).
      g.1 ∙ begin_gives a Direction.Forward worth q.start
      ∙ start_gives a Direction.Forward worth q.mode q.start (let order = g.0 in omega arith)
      ∙ start_found g.0 q.mode
      ∙ sym (found_in_mode a.expressions t q g.0 q.mode refl))
      (last_told a Direction.Forward q.end foretold (λ order. omega arith) told last e)

pub preference_holds : Preference
preference_holds p es q safe bytes inside told e =
    forward_tells (plan_query p es (record q { earliest = false }) safe bytes inside) told refl e
