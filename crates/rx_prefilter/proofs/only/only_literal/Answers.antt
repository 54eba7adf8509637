use Rattle.rx_spec.proofs.Prelude.{common_steps, ◌≡◌, ◌==◌, ℕ, length, ap, sym, ◌∙◌, subst, arith, slice_index}
use Rattle.rx_spec.proofs.Prelude.{slice_index_or, eqb-true, not-false, row_of, Anchored}
use Rattle.rx_search.proofs.Standing.{standing}
use Rattle.rx_prefilter.specs.Literals.{rows_at}
use Rattle.rx_prefilter.specs.OnlyLiterals.{SearchesFor, StartsAt, Tells}
use Rattle.rx_prefilter.proofs.LiteralSearches.{IsForward, IsReverse, searches_for}
use Rattle.rx_prefilter.proofs.RowsOf.{read}
use Rattle.rx_prefilter.proofs.only.only_literal.Goals as goal

pub returns-clause-searches : goal.returns-clause-searches
returns-clause-searches g c =
    let forward = c.forward-forward.result.now in
    let reverse = c.reverse-reverse.result.now in
    let f = g.A.Automaton.table forward in
    let r = g.A.Automaton.table reverse in
    let ids = g.A.Automaton.ids forward in
    let rows = c.in-Some-2.literal.rows.items in
    let bytes = c.in-Some-2.literal.bytes.items in
    let is = rw c.in-Some-2.is at c.in_ok-literal.ensures in
    let forward_sound = g.met.A.Automaton.sound forward
    (rw c.forward-forward.ensures.table c.forward-forward.ensures.sound) in
    let reverse_sound = g.met.A.Automaton.sound reverse
    (rw c.reverse-reverse.ensures.table c.reverse-reverse.ensures.sound) in
    let first = is.0 in
    let end : slice_index rows (length bytes) ≡ c.index-end.result.now =
    read rows (length bytes) c.index-end.result.now (omega arith)
    (c.index-end.ensures
    ∙ ap (λ (n : ℕ). slice_index_or rows n c.index-end.result.now)
    (c.len.ensures ∙ sym c.deref.ensures.len ∙ ap length c.deref.ensures.value)) in
    let forward_is : IsForward f bytes c.in-Some-told_at.pattern (rows_at ids rows) = record {
      started = record {
        sound = forward_sound;
        whole = sym c.skips_splits.ensures ∙ c.if-skips_splits.false;
        starts = subst (λ (id : ℕ). StartsAt f Anchored.No (row_of ids id)) (sym first) c.in-Some.ensures.1;
      };
      is_literal = is.2;
      below = λ k h.
          (standing (slice_index rows k) forward_sound (g.met.A.Automaton.are_ids forward)
          (is.1.are_ids k 0 (omega arith))).below;
      tells = subst (λ (id : ℕ). Tells f (row_of ids id) c.in-Some-told_at.pattern) (sym end) c.in-Some-told_at.ensures;
    } in
    let reverse_is : IsReverse r bytes c.in-Some-told_at.pattern
    (row_of (g.A.Automaton.ids reverse) c.in-Some-only_start.last)
    (row_of (g.A.Automaton.ids reverse) c.in-Some-row_before.before) = record {
      started = record {
        sound = reverse_sound;
        whole = sym c.skips_splits-else-skips_splits.ensures ∙ c.if-skips_splits-2.false;
        starts = c.in-Some-only_start.ensures.1;
      };
      back = rw c.deref.ensures.value at c.in-Some-row_before.ensures.1;
      below =
          (standing c.in-Some-row_before.before reverse_sound (g.met.A.Automaton.are_ids reverse)
          c.in-Some-row_before.ensures.0).below;
      tells =
          subst (Tells r (row_of (g.A.Automaton.ids reverse) c.in-Some-row_before.before))
          (eqb-true c.in-Some-told_at-2.other c.in-Some-told_at.pattern
          (not-false (c.in-Some-told_at-2.other == c.in-Some-told_at.pattern) (sym c.ne.ensures ∙ c.if-ne.false)))
          c.in-Some-told_at-2.ensures;
    } in
    let both : SearchesFor f r bytes c.in-Some-told_at.pattern =
    searches_for (sym c.is_always_start_anchored.ensures ∙ c.if-is_always_start_anchored.false) forward_is reverse_is in
    rw (c.forward-forward.ensures.table, c.reverse-reverse.ensures.table) at both

pub returns-clause-some : goal.returns-clause-some
returns-clause-some g c = grind (arith, common_steps)
