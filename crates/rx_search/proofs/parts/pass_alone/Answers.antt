use Rattle.rx_spec.proofs.Prelude.{common_steps, sym, ◌∙◌, arith, row_of}
use Rattle.rx_spec.specs.declared.Direction.{Direction}
use Rattle.rx_search.proofs.Passing.{leads_none, leads_more, leads_no_further}
use Rattle.rx_search.proofs.parts.pass_alone.Goals as goal

pub bytes-init : goal.bytes-init
bytes-init g c = grind (arith, common_steps, leads_none)

pub returns-then-is_special_state-clause-farthest : goal.returns-then-is_special_state-clause-farthest
returns-then-is_special_state-clause-farthest g c =
    leads_no_further (g.A.Automaton.table c.args.dfa.now) Direction.Forward c.args.haystack.now
    (row_of (g.A.Automaton.ids c.args.dfa.now) c.next_state-next.result)
    c.bytes.invariant.leads c.next_state-next.ensures.row
    (sym c.is_special_state.ensures ∙ c.if-is_special_state.true)

pub returns-clause-farthest : goal.returns-clause-farthest
returns-clause-farthest g c = record { stops = λ h. absurd (omega arith) }

pub bytes-preserved : goal.bytes-preserved
bytes-preserved g c = record {
  is_id = c.next_state-next.ensures.is_id;
  leads = leads_more (g.A.Automaton.table c.args.dfa.now) Direction.Forward c.args.haystack.now
      (row_of (g.A.Automaton.ids c.args.dfa.now) c.next_state-next.result)
      c.bytes.invariant.leads c.next_state-next.ensures.row
      (sym c.is_special_state.ensures ∙ c.if-is_special_state.false);
  few = omega arith;
}
