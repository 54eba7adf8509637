use Rattle.rx_spec.proofs.Prelude.{common_steps, arith}
use Rattle.rx_dense.proofs.AccelLists.{accel_lists_len}
use Rattle.rx_dense.proofs.dfa.DFA.accel_len.Goals as goal

pub returns-clause-value : goal.returns-clause-value
returns-clause-value g c = grind (arith, common_steps, accel_lists_len)

pub returns-clause-bound : goal.returns-clause-bound
returns-clause-bound g c = grind (arith, common_steps, accel_lists_len)
