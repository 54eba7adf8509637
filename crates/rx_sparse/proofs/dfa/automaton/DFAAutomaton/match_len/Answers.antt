use Rattle.rx_spec.proofs.Prelude.{arith, common_steps}
use Rattle.rx_sparse.proofs.RowKinds.{match_patterns}
use Rattle.rx_sparse.proofs.dfa.automaton.DFAAutomaton.match_len.Goals as goal

pub returns : goal.returns
returns g c = grind (arith, common_steps, match_patterns)
