use Rattle.rx_spec.proofs.Prelude.{◌∙◌}
use Rattle.rx_dense.proofs.RowKinds.{special_kind}
use Rattle.rx_dense.proofs.dfa.automaton.DFAAutomaton.is_special_state.Goals as goal

pub returns : goal.returns
returns g c = rw c.special.ensures at c.is_special_state.ensures ∙ special_kind c.args.self.now c.args.id c.requires
