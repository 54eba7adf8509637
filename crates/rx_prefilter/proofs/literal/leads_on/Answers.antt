use Rattle.rx_spec.proofs.Prelude.{◌≡◌, ℕ, ◌<◌, ◌≤◌, ◌==◌, ap, sym, ◌∙◌, subst, ⊎_elim, arith, cases_lt, eqb-true}
use Rattle.rx_spec.proofs.Prelude.{not-false, row_of}
use Rattle.rx_prefilter.specs.Literals.{LeadsOn, rows_at}
use Rattle.rx_prefilter.proofs.RowsOf.{read}
use Rattle.rx_prefilter.proofs.literal.leads_on.Goals as goal

pub loop-byte-preserved : goal.loop-byte-preserved
loop-byte-preserved g c = λ byte low.
    let t = g.A.Automaton.table c.args.dfa.now in
    let ids = g.A.Automaton.ids c.args.dfa.now in
    let at = rows_at ids c.args.rows.now in
    let same : c.next_state.result ≡ c.index-rows-len.result =
    eqb-true c.next_state.result c.index-rows-len.result
    (not-false (c.next_state.result == c.index-rows-len.result) (sym c.ne.ensures ∙ c.if-ne.false)) in
    let n = c.requires.count in
    let k = c.requires.within in
    let from = read c.args.rows.now c.args.k c.index-rows-k.result (omega (arith, n, k)) c.index-rows-k.is in
    let to = read c.args.rows.now c.longest-len.result c.index-rows-len.result
    (omega arith) c.index-rows-len.is in
    let there : t.machine.next (at c.args.k) c.loop-byte.byte ≡ at c.longest-len.result =
    ap (λ (id : ℕ). t.machine.next (row_of ids id) c.loop-byte.byte) from
    ∙ sym c.next_state.ensures.row ∙ ap (row_of ids) (same ∙ sym to) in
    ⊎_elim (λ (before : byte < c.loop-byte.byte). c.loop-byte.invariant byte before)
    (λ (last : c.loop-byte.byte ≤ byte).
    let here : c.loop-byte.byte ≡ byte = omega arith in
    subst (LeadsOn t c.args.literal.now at c.args.k) here
    (record { len = c.longest-len.result; is_longest = c.longest-len.ensures; there = there }))
    (cases_lt byte c.loop-byte.byte)
