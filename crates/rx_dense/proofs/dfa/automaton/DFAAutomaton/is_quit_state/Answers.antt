use Rattle.rx_spec.proofs.Prelude.{arith, common_steps}
use Rattle.rx_dense.proofs.RowKinds.{quit_kind}
use Rattle.rx_dense.proofs.dfa.automaton.DFAAutomaton.is_quit_state.Goals as goal

pub returns : goal.returns
returns g c = grind (arith, common_steps, quit_kind)
