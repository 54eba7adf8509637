use Rattle.rx_spec.proofs.Prelude.{common_steps, arith}
use Rattle.rx_dense.proofs.Shaped.{shaped_row, new_id}
use Rattle.rx_dense.proofs.dfa.build.DFA+Vec+u32.add_empty_state.Goals as goal

pub invariant_of-self-2 : goal.invariant_of-self-2
invariant_of-self-2 c = grind (arith, common_steps, shaped_row)

pub returns-clause-ok : goal.returns-clause-ok
returns-clause-ok c = grind (arith, common_steps)

pub returns-clause-is_id : goal.returns-clause-is_id
returns-clause-is_id c = grind (arith, common_steps, new_id)
