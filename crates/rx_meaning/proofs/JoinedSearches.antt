-- What the two half searches answer together: what is found, and a match for each end that is met.
use Rattle.rx_spec.proofs.Prelude.{rules, ◌≡◌, ℕ, false, Option, Some, None, Ok, Err, refl, ap, sym, ◌∙◌, none-some}
use Rattle.rx_spec.proofs.Prelude.{same_Some, Query, Match, HalfMatch, MatchError, found, HalfAnswer, match_at}
use Rattle.rx_spec.proofs.Prelude.{with_end, is_always_start_anchored, Build, power, build_settings}
use Rattle.rx_plan.specs.Plans.{plan_nfa}
use Rattle.rx_plan.specs.Plans.{plan_build, unless_error}
use Rattle.std.specs.Option.{option_map}
use Rattle.rx_spec.specs.declared.Direction.{Direction}
use Rattle.rx_lemmas.proofs.WalkBounds.{half_is_no_mismatch}
use Rattle.rx_lemmas.proofs.FoundLaws.{is_found}
use Rattle.rx_meaning.specs.Preference.{build_half_search, end_of}
use Rattle.rx_meaning.specs.Joined.{plan_search, JoinedSearch, IsMatch, JoinedEnd, NeverMismatched}
use Rattle.rx_meaning.proofs.Scan.{PlanQuery, plan_query}
use Rattle.rx_meaning.proofs.ForwardSearch.{preference_holds}
use Rattle.rx_meaning.proofs.EndStarts.{always, half, Begins, answered}
use Rattle.rx_meaning.proofs.EarliestSearch.{earliest_begins}
use Rattle.rx_meaning.proofs.FoundStart.{found_begins, found_start}

-- the match of a told end
mapped : (end : HalfMatch) (o : Option Match) → Some end ≡ option_map end_of o
    → (m : Match) × (o ≡ Some m) × (end ≡ end_of m)
mapped end None e = absurd (none-some end (sym e))
mapped end (Some m) e = (m, refl, same_Some end (end_of m) e)

mapped_none : (o : Option Match) → None ≡ option_map end_of o → o ≡ None
mapped_none None e = refl
mapped_none (Some m) e = absurd (none-some (end_of m) e)

module _ (a : PlanQuery) where
  abbrev finds : Option Match
  finds = found a.expressions a.plan.line_terminator a.query

  abbrev reversed : Query → HalfAnswer
  reversed = build_half_search (plan_build a.plan Direction.Reverse a.expressions) Direction.Reverse

  told_found : a.query.earliest ≡ false → (told : Option HalfMatch) → half a Direction.Forward ≡ Ok told
      → told ≡ option_map end_of finds
  told_found last told e =
      preference_holds a.plan a.expressions a.query a.safe a.bytes a.inside told
      (ap (λ v. build_half_search (plan_build a.plan Direction.Forward a.expressions) Direction.Forward
      (record a.query { earliest = v })) (sym last) ∙ e)

  -- Where the match begins of each end that is told: the first that is met, or the preferred one.
  told_begins : (end : HalfMatch) → half a Direction.Forward ≡ Ok (Some end) → Begins a end.pattern end.offset
  told_begins end e = search (rules, earliest_begins, told_found, found_begins, is_found)

  pub end_joined : (end : HalfMatch) → half a Direction.Forward ≡ Ok (Some end)
      → (start : ℕ) × (plan_search a.plan a.expressions a.query ≡ match_at end.pattern start end.offset)
      × IsMatch a.expressions a.plan.line_terminator a.query end.pattern start end.offset
  end_joined end e =
      let b = told_begins end e in
      (b.start, ap (with_end reversed (always a) a.query) e ∙ answered a end e b, b.is_match)

  -- What is answered is what is found.
  pub search_joined : a.query.earliest ≡ false
      → plan_search a.plan a.expressions a.query ≡ unless_error (half a Direction.Forward) (Ok finds)
  search_joined last = by_answer (half a Direction.Forward) refl
    where
      by_answer : (o : HalfAnswer) → half a Direction.Forward ≡ o
          → with_end reversed (always a) a.query o ≡ unless_error o (Ok finds)
      by_answer (Err error) e = refl
      by_answer (Ok None) e = ap Ok (sym (mapped_none finds (told_found last None e)))
      by_answer (Ok (Some end)) e =
          let m = mapped end finds (told_found last (Some end) e) in
          let is = is_found a.expressions a.plan.line_terminator a.query m.0 m.1 in
          let told : half a Direction.Forward ≡ Ok (Some (end_of m.0)) = e ∙ ap (λ h. Ok (Some h)) m.2 in
          ap (λ h. with_end reversed (always a) a.query (Ok (Some h))) m.2
          ∙ answered a (end_of m.0) told (found_begins a m.0 is)
          ∙ ap (λ start. match_at m.0.pattern start m.0.end) (found_start a m.0 is)
          ∙ ap (λ o. Ok o) (sym m.1)

pub joined_search_holds : JoinedSearch
joined_search_holds p es q safe bytes inside =
    search_joined (plan_query p es (record q { earliest = false }) safe bytes inside) refl

pub joined_end_holds : JoinedEnd
joined_end_holds p es q end safe bytes inside e = end_joined (plan_query p es q safe bytes inside) end e

-- and so the two never disagree
pub never_mismatched_holds : NeverMismatched
never_mismatched_holds p es q end start safe bytes inside m =
    by_answer (build_half_search b Direction.Forward q) refl m
  where
    b : Build
    b = plan_build p Direction.Forward es

    by_answer : (o : HalfAnswer) → build_half_search b Direction.Forward q ≡ o
        → with_end (build_half_search (plan_build p Direction.Reverse es) Direction.Reverse)
        (is_always_start_anchored (plan_nfa p Direction.Forward es)) q o ≡ Err (MatchError.PairMismatch end start) → ⊥
    by_answer (Err error) e m =
        let same : error ≡ MatchError.PairMismatch end start = cc in
        half_is_no_mismatch (power b) (build_settings b) Direction.Forward q end start (e ∙ ap (λ x. Err x) same)
    by_answer (Ok None) e m = cc
    by_answer (Ok (Some last)) e m =
        let joined = joined_end_holds p es q last safe bytes inside e in
        cc
