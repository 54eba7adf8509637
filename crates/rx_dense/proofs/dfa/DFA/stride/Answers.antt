use Rattle.rx_spec.proofs.Prelude.{common_steps, arith}
use Rattle.rx_dense.proofs.Rows.{stride_few}
use Rattle.rx_dense.proofs.dfa.DFA.stride.Goals as goal

pub returns-clause-bound : goal.returns-clause-bound
returns-clause-bound g c = grind (arith, common_steps, stride_few)
