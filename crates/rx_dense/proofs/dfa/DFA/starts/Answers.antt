use Rattle.rx_spec.proofs.Prelude.{arith, common_steps}
use Rattle.rx_dense.proofs.States.{starts_of-len}
use Rattle.rx_dense.proofs.dfa.DFA.starts.Goals as goal

pub invariant_of-result : goal.invariant_of-result
invariant_of-result g c = grind (arith, common_steps, starts_of-len)
