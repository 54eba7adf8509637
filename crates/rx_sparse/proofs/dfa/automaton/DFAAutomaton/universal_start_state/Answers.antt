use Rattle.rx_spec.proofs.Prelude.{arith, common_steps}
use Rattle.rx_sparse.proofs.dfa.automaton.DFAAutomaton.universal_start_state.Goals as goal

pub returns-in-No-clause-is_id : goal.returns-in-No-clause-is_id
returns-in-No-clause-is_id g c = grind (arith, common_steps)

pub returns-in-Yes-clause-is_id : goal.returns-in-Yes-clause-is_id
returns-in-Yes-clause-is_id g c = grind (arith, common_steps)
