use Rattle.rx_spec.proofs.Prelude.{common_steps, arith}
use Rattle.rx_dense.proofs.AccelLists.{accel_lists_len}
use Rattle.rx_dense.proofs.dfa.DFA.memory_usage.Goals as goal

pub overflow_mul-result-2 : goal.overflow_mul-result-2
overflow_mul-result-2 g c = grind (arith, common_steps)

pub returns : goal.returns
returns g c = grind (arith, common_steps, accel_lists_len)
