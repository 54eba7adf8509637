use Rattle.rx_spec.proofs.Prelude.{◌∙◌, ◌/◌, sym, ap, option_map}
use Rattle.rx_search.specs.Starts.{refusal_of}
use Rattle.rx_dense.specs.Layouts.{stride}
use Rattle.rx_dense.proofs.Rows.{IsId-row_id, row_of-id}
use Rattle.rx_dense.proofs.dfa.automaton.DFAAutomaton.start_state.Goals as goal

pub returns-in-None : goal.returns-in-None
returns-in-None g c =
    let l = c.args.self.now in
    let value =
    rw (c.get_anchored.ensures, c.context_beside.ensures, c.get_look_behind.ensures) at c.start.ensures.value in (
      sym c.start_error.ensures ∙ ap (option_map refusal_of) c.in-None.is,
      IsId-row_id l c.start.result c.start.ensures.is_row,
      row_of-id l c.start.result c.start.ensures.is_row ∙ ap (λ x. x / stride l) value,
    )
