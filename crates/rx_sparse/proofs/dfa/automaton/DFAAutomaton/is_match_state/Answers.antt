use Rattle.rx_spec.proofs.Prelude.{arith, common_steps}
use Rattle.rx_sparse.proofs.RowKinds.{match_kind}
use Rattle.rx_sparse.proofs.dfa.automaton.DFAAutomaton.is_match_state.Goals as goal

pub returns : goal.returns
returns g c = grind (arith, common_steps, match_kind)
