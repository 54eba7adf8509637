use Rattle.rx_spec.proofs.Prelude.{common_steps, rules, arith}
use Rattle.rx_dense.proofs.States.{rows_from-next}
use Rattle.rx_dense.proofs.dfa.states.StateIterIterator.next.Goals as goal

pub returns-clause-steps : goal.returns-clause-steps
returns-clause-steps g c = grind (arith, common_steps, rows_from-next)

pub returns-clause-goes : goal.returns-clause-goes
returns-clause-goes g c = rw (returns-clause-steps g c) (search rules)
