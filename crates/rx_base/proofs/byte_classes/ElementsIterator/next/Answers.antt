use Rattle.rx_spec.proofs.Prelude.{arith, rules, common_steps}
use Rattle.rx_base.proofs.Classes.{elements_from-pass, elements_from-skip}
use Rattle.rx_base.proofs.byte_classes.ElementsIterator.next.Goals as goal

pub returns-then-get-self-clause-steps : goal.returns-then-get-self-clause-steps
returns-then-get-self-clause-steps c = grind (arith, common_steps, elements_from-pass)

pub returns-then-get-self-clause-goes : goal.returns-then-get-self-clause-goes
returns-then-get-self-clause-goes c = rw (returns-then-get-self-clause-steps c) (search rules)

pub loop-self-preserved : goal.loop-self-preserved
loop-self-preserved c = grind (arith, common_steps, elements_from-skip)
