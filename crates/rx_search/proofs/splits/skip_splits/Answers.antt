use Rattle.rx_spec.proofs.Prelude.{common_steps, ◌<◌, false, ap, sym, ◌∙◌, subst, arith, length, ◌≡◌, Query, IsFit}
use Rattle.rx_spec.proofs.Prelude.{is_anchored, is_narrowest, skip_splits, split_limit, HalfAnswer}
use Rattle.rx_base.specs.Input.{query_of}
use Rattle.rx_search.specs.Walks.{IsInSpan}
use Rattle.rx_search.proofs.Unsplit.{split_found, searched_again, nothing_found, search_failed, match_found, next_fits}
use Rattle.rx_search.proofs.Unsplit.{limit_falls}
use Rattle.rx_search.proofs.splits.skip_splits.Given as given
use Rattle.rx_search.proofs.splits.skip_splits.Goals.{After-narrower-span}
use Rattle.rx_search.proofs.splits.skip_splits.Goals as goal
use Rattle.rx_search.specs.SplitSearches.{unsplit_from}

pub splits-init : goal.splits-init
splits-init g c = grind (arith, common_steps)

pub returns-then-is_anchored : goal.returns-then-is_anchored
returns-then-is_anchored g c = grind (arith, common_steps)

pub returns-then-is_narrowest : goal.returns-then-is_narrowest
returns-then-is_narrowest g c =
    let q = query_of c.args.input.now in
    let inv = c.splits.invariant in
    let now : Query = record q { start = c.splits.span.start; end = c.splits.span.end } in
    let split = split_found inv.fits inv.in_span c.offset.ensures c.is_char_boundary.ensures c.splits-test.true in
    let narrowest = sym (c.is_narrowest.ensures q) ∙ c.if-is_narrowest.true in
    grind (arith, common_steps)

pub narrower-span-requires : goal.narrower-span-requires
narrower-span-requires g c = grind (arith, common_steps)

-- ---- the span has become narrower

module _ (g : given.Over) (c : After-narrower-span g) where
  abbrev now : Query
  now = record (query_of c.args.input.now) { start = c.splits.span.start; end = c.splits.span.end }

  abbrev next : Query
  next = record (query_of c.args.input.now) { start = c.narrower-span.result.start; end = c.narrower-span.result.end }

  more : is_narrowest c.args.direction now ≡ false
  more = sym (c.is_narrowest.ensures (query_of c.args.input.now)) ∙ c.if-is_narrowest.false

  next_is_fit : IsFit next
  next_is_fit =
      next_fits c.args.direction c.splits.invariant.fits c.splits.invariant.in_span
      (c.narrower-span.ensures (query_of c.args.input.now)) more

  -- so it is searched again
  again : (answers : Query → HalfAnswer) → unsplit_from answers c.args.direction now c.splits.found
      ≡ skip_splits answers c.args.direction (split_limit next) next
  again answers =
      let inv = c.splits.invariant in
      searched_again answers c.args.direction now c.splits.found
      (split_found inv.fits inv.in_span c.offset.ensures c.is_char_boundary.ensures c.splits-test.true)
      (ap is_anchored (sym c.get_anchored.ensures) ∙ sym c.is_anchored.ensures ∙ c.if-is_anchored.false) more
      ∙ ap (λ (x : Query). skip_splits answers c.args.direction (split_limit x) x)
      (sym (c.narrower-span.ensures (query_of c.args.input.now)))

pub with_span-requires-clause-within : goal.with_span-requires-clause-within
with_span-requires-clause-within g c =
    let fits = next_is_fit g (goal.at.with_span-requires-clause-within g c).After-narrower-span in
    omega (arith, fits.within, ap length c.haystack-haystack.ensures)

pub with_span-requires-clause-ordered : goal.with_span-requires-clause-ordered
with_span-requires-clause-ordered g c =
    (next_is_fit g (goal.at.with_span-requires-clause-ordered g c).After-narrower-span).ordered

pub search-requires : goal.search-requires
search-requires g c =
    let fits = next_is_fit g (goal.at.search-requires g c).After-narrower-span in
    c.requires.callable _ (subst IsFit (sym c.with_span.ensures) fits)

pub splits-smaller : goal.splits-smaller
splits-smaller g c =
    let at = (goal.at.splits-smaller g c).After-narrower-span in
    subst (λ (x : Query). split_limit x < split_limit (now g at))
    (sym (c.narrower-span.ensures (query_of c.args.input.now)))
    (limit_falls c.args.direction c.splits.invariant.fits (more g at))

pub splits-preserved : goal.splits-preserved
splits-preserved g c =
    let d = c.args.direction in
    let inv = c.splits.invariant in
    let at = (goal.at.splits-preserved g c).After-narrower-span in
    let fits = next_is_fit g at in
    let called = subst IsFit (sym c.with_span.ensures) fits in
    let told = rw c.in-Ok-Some.field-0-is at c.in-Ok-Some.ensures in
    record {
      fits = fits;
      in_span = subst (λ (x : Query). IsInSpan x c.in-Ok-Some.next.offset) c.with_span.ensures
          (c.requires.within _ c.in-Ok-Some.next called told);
      told = λ answers says.
          inv.told answers says
          ∙ again g at answers
          ∙ match_found answers d fits c.in-Ok-Some.next
          (sym (says _ _ called told ∙ ap answers c.with_span.ensures));
    }

pub returns-in-Ok-None : goal.returns-in-Ok-None
returns-in-Ok-None g c =
    let d = c.args.direction in
    let inv = c.splits.invariant in
    let at = (goal.at.returns-in-Ok-None g c).After-narrower-span in
    let fits = next_is_fit g at in
    let called = subst IsFit (sym c.with_span.ensures) fits in
    let told = rw c.in-Ok-None.field-0-is at c.in-Ok-None.ensures in
    λ answers says.
    sym (inv.told answers says
    ∙ again g at answers
    ∙ nothing_found answers d fits (sym (says _ _ called told ∙ ap answers c.with_span.ensures)))

pub returns-in-Err : goal.returns-in-Err
returns-in-Err g c =
    let d = c.args.direction in
    let inv = c.splits.invariant in
    let at = (goal.at.returns-in-Err g c).After-narrower-span in
    let fits = next_is_fit g at in
    let called = subst IsFit (sym c.with_span.ensures) fits in
    λ answers says.
    sym (inv.told answers says
    ∙ again g at answers
    ∙ search_failed answers d fits c.in-Err.error
    (sym (says _ _ called c.in-Err.ensures ∙ ap answers c.with_span.ensures)))

pub returns : goal.returns
returns g c = grind (arith, common_steps)
