use Rattle.rx_spec.proofs.Prelude.{◌≡◌, ap, sym, ◌∙◌, arith, slice_index, List, ℕ, eqb-true, row_of}
use Rattle.rx_search.proofs.Standing.{standing}
use Rattle.rx_search.proofs.Walks.{ordinary, unaccelerated}
use Rattle.rx_prefilter.proofs.Going.{going_on}
use Rattle.rx_prefilter.proofs.search.pass.Goals as goal

pub returns-then-eq : goal.returns-then-eq
returns-then-eq g c =
    let t = g.A.Automaton.table c.args.dfa.now in
    let ids = g.A.Automaton.ids c.args.dfa.now in
    let same : c.next_state-next.result ≡ c.args.start =
    eqb-true c.next_state-next.result c.args.start (sym c.eq.ensures ∙ c.if-eq.true) in
    let s = standing c.next_state-next.result (g.met.A.Automaton.sound c.args.dfa.now c.requires.sound)
    (g.met.A.Automaton.are_ids c.args.dfa.now) c.next_state-next.ensures.is_id in
    let going = going_on s
    (record {
      plain = ap (λ (id : ℕ). t.machine.label (row_of ids id)) same ∙ c.requires.plain;
      alive = ap (λ (id : ℕ). t.machine.is_dead (row_of ids id)) same ∙ c.requires.alive;
    })
    c.requires.fits c.bytes.invariant.stopped.going (λ over. c.bytes-test.true (over ∙ sym c.end.ensures))
    (c.next_state-next.ensures.row
    ∙ ap (λ (hay : List ℕ). t.machine.next (row_of ids c.bytes.row) (slice_index hay c.bytes.at)) c.haystack.ensures) in
    (rw (sym same) going, omega arith)

pub bytes-preserved : goal.bytes-preserved
bytes-preserved g c =
    let t = g.A.Automaton.table c.args.dfa.now in
    let ids = g.A.Automaton.ids c.args.dfa.now in
    let on = c.bytes.invariant.on in
    let plain = sym c.is_special_state.ensures ∙ c.if-is_special_state.false in
    let s = standing c.next_state-next.result (g.met.A.Automaton.sound c.args.dfa.now c.requires.sound)
    (g.met.A.Automaton.are_ids c.args.dfa.now) c.next_state-next.ensures.is_id in
    record {
      stopped = record {
        is_id = c.next_state-next.ensures.is_id;
        going =
            going_on s (ordinary s plain) c.requires.fits c.bytes.invariant.stopped.going
            (λ over. c.bytes-test.true (over ∙ sym c.end.ensures))
            (c.next_state-next.ensures.row
            ∙ ap (λ (hay : List ℕ). t.machine.next (row_of ids c.bytes.row) (slice_index hay c.bytes.at))
            c.haystack.ensures);
        no_needles = s.sound.no_needle (row_of ids c.next_state-next.result) s.below (unaccelerated s plain);
      };
      on = omega arith;
    }
