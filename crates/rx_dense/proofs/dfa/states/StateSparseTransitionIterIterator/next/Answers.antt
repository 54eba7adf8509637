use Rattle.rx_spec.proofs.Prelude.{common_steps, rules, arith}
use Rattle.rx_dense.proofs.Ranges.{range_end-begins, sparse-dead, sparse-live}
use Rattle.rx_dense.proofs.dfa.states.StateSparseTransitionIterIterator.next.Goals as goal

pub invariant_of-self : goal.invariant_of-self
invariant_of-self c = grind (arith, common_steps, range_end-begins)

pub returns-then-next-ne0-clause-steps : goal.returns-then-next-ne0-clause-steps
returns-then-next-ne0-clause-steps c = grind (arith, common_steps, sparse-live)

pub returns-then-next-ne0-clause-goes : goal.returns-then-next-ne0-clause-goes
returns-then-next-ne0-clause-goes c = rw (returns-then-next-ne0-clause-steps c) (search rules)

pub loop-self-preserved : goal.loop-self-preserved
loop-self-preserved c = grind (arith, common_steps, range_end-begins, sparse-dead)
