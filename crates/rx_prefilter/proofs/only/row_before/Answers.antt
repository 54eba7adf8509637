use Rattle.rx_spec.proofs.Prelude.{common_steps, ◌-◌, arith}
use Rattle.rx_search.proofs.Standing.{standing}
use Rattle.rx_prefilter.proofs.Backwards.{back_more}
use Rattle.rx_prefilter.proofs.only.row_before.Goals as goal

pub bytes-preserved : goal.bytes-preserved
bytes-preserved g c =
    let ids = g.A.Automaton.ids c.args.dfa.now in
    let next = c.next_state-row.result in
    let s = standing next (g.met.A.Automaton.sound c.args.dfa.now c.requires.sound)
    (g.met.A.Automaton.are_ids c.args.dfa.now) c.next_state-row.ensures.is_id in
    grind (arith, common_steps, back_more)
