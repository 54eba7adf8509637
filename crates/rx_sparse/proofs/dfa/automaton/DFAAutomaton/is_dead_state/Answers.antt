use Rattle.rx_spec.proofs.Prelude.{◌∙◌}
use Rattle.rx_sparse.proofs.RowPlaces.{dead_kind}
use Rattle.rx_sparse.proofs.dfa.automaton.DFAAutomaton.is_dead_state.Goals as goal

pub returns : goal.returns
returns g c = c.eq.ensures ∙ dead_kind c.args.self.now.layout.rows c.args.id c.requires
