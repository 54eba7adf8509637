use Rattle.rx_spec.proofs.Prelude.{arith, rules, common_steps}
use Rattle.rx_dense.proofs.States.{transitions_from-next}
use Rattle.rx_dense.proofs.dfa.states.StateTransitionIterIterator.next.Goals as goal

pub returns-clause-steps : goal.returns-clause-steps
returns-clause-steps c = grind (arith, common_steps, transitions_from-next)

pub returns-clause-goes : goal.returns-clause-goes
returns-clause-goes c = rw (returns-clause-steps c) (search rules)
