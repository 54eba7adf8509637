use Rattle.rx_spec.proofs.Prelude.{arith, rules, common_steps}
use Rattle.rx_base.proofs.Classes.{representatives_from-pass, representatives_from-skip}
use Rattle.rx_base.proofs.byte_classes.RepresentativesIterator.next.Goals as goal

pub returns-then-begins_class-clause-steps : goal.returns-then-begins_class-clause-steps
returns-then-begins_class-clause-steps c = grind (arith, common_steps, representatives_from-pass)

pub returns-then-begins_class-clause-goes : goal.returns-then-begins_class-clause-goes
returns-then-begins_class-clause-goes c = rw (returns-then-begins_class-clause-steps c) (search rules)

pub loop-self-preserved : goal.loop-self-preserved
loop-self-preserved c = grind (arith, common_steps, representatives_from-skip)
