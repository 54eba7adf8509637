use Rattle.rx_spec.proofs.Prelude.{common_steps, arith}
use Rattle.rx_dense.proofs.Rows.{class_column}
use Rattle.rx_dense.proofs.dfa.automaton.DFAAutomaton.next_state.Goals as goal

pub entry-requires-clause-within : goal.entry-requires-clause-within
entry-requires-clause-within g c = grind (arith, common_steps, class_column)
