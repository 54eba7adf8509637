use Rattle.rx_spec.proofs.Prelude.{◌≡◌, ℕ, ◌<◌, ◌≤◌, ◌==◌, ◌-◌, ap, sym, ◌∙◌, subst, ⊎_elim, arith, length, slice_index}
use Rattle.rx_spec.proofs.Prelude.{cases_lt, eoi, row_of}
use Rattle.rx_search.proofs.Standing.{standing}
use Rattle.rx_search.proofs.Walks.{unaccelerated}
use Rattle.rx_prefilter.specs.Literals.{rows_at}
use Rattle.rx_prefilter.proofs.RowsOf.{IsRowOf, read}
use Rattle.rx_prefilter.proofs.literal.is_literal.Goals as goal

pub loop-k-preserved : goal.loop-k-preserved
loop-k-preserved g c = λ k low.
    let t = g.A.Automaton.table c.args.dfa.now in
    let ids = g.A.Automaton.ids c.args.dfa.now in
    let at = rows_at ids c.args.rows.now in
    let within : c.loop-k.k < length c.args.rows.now = omega arith in
    let row = read c.args.rows.now c.loop-k.k c.index-rows-k.result within c.index-rows-k.is in
    let s = standing (slice_index c.args.rows.now c.loop-k.k)
    (g.met.A.Automaton.sound c.args.dfa.now c.requires.sound) (g.met.A.Automaton.are_ids c.args.dfa.now)
    (c.requires.ids c.loop-k.k 0 within) in
    ⊎_elim (λ (before : k < c.loop-k.k). c.loop-k.invariant k before)
    (λ (last : c.loop-k.k ≤ k).
    let here : c.loop-k.k ≡ k = omega arith in
    subst (IsRowOf t c.args.literal.now at) here
    (record {
      plain =
          ap (λ (id : ℕ). t.machine.label (row_of ids id)) row
          ∙ c.tells_nothing-in-loop-k.ensures c.if-not-tells_nothing-2.false;
      alive =
          s.sound.is_table.dead_only (at c.loop-k.k) s.below ∙ ap (λ (id : ℕ). row_of ids id == 0) row
          ∙ sym c.is_dead_state.ensures ∙ c.if-is_dead_state.false;
      silent =
          ap (λ (id : ℕ). t.machine.label (t.machine.next (row_of ids id) eoi)) row
          ∙ ap t.machine.label (sym c.next_eoi_state.ensures.row)
          ∙ c.tells_nothing-in-loop-k-2.ensures c.if-not-tells_nothing-3.false;
      leads = c.leads_on.ensures c.if-not-leads_on.false;
    }))
    (cases_lt k c.loop-k.k)

pub returns : goal.returns
returns g c = λ yes.
    let t = g.A.Automaton.table c.args.dfa.now in
    let ids = g.A.Automaton.ids c.args.dfa.now in
    let len = length c.args.literal.now in
    let some = c.if-len-lt2.false in
    let last = read c.args.rows.now (len - 1) c.index-rows-len.result (omega arith) c.index-rows-len.is in
    let end = read c.args.rows.now len c.index-rows-len-else-is_special_state.result (omega arith)
    c.index-rows-len-else-is_special_state.is in
    let s = standing (slice_index c.args.rows.now (len - 1))
    (g.met.A.Automaton.sound c.args.dfa.now c.requires.sound) (g.met.A.Automaton.are_ids c.args.dfa.now)
    (c.requires.ids (len - 1) 0 (omega arith)) in
    let rows : (k : ℕ) → k < len → IsRowOf t c.args.literal.now (rows_at ids c.args.rows.now) k = λ k h.
    c.loop-k.invariant k (omega arith) in
    record {
      some = omega arith;
      leads = λ k byte h low. (rows k h).leads byte low;
      plain = λ k h.
          ⊎_elim (λ (before : k < len). (rows k before).plain)
          (λ (over : len ≤ k).
          let there : k ≡ len = omega arith in
          ap (λ (k : ℕ). t.machine.label (rows_at ids c.args.rows.now k)) there
          ∙ ap (λ (id : ℕ). t.machine.label (row_of ids id)) end
          ∙ c.tells_nothing.ensures c.if-not-tells_nothing.false)
          (cases_lt k len);
      alive = λ k h. (rows k h).alive;
      silent = λ k h. (rows k h).silent;
      no_needles =
          s.sound.no_needle (rows_at ids c.args.rows.now (len - 1)) s.below
          (unaccelerated s
          (ap (λ (id : ℕ). t.is_special (row_of ids id)) last ∙ sym c.is_special_state.ensures
          ∙ c.if-is_special_state.false));
    }
