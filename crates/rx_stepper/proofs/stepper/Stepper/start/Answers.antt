use Rattle.rx_spec.proofs.Prelude.{rules, [], arith, common_steps}
use Rattle.rx_stepper.proofs.Prelude.{stepping_of}
use Rattle.rx_stepper.proofs.stepper.Stepper.start.Goals as goal

pub write_key-requires-clause-asked : goal.write_key-requires-clause-asked
unfolding stepping_of
write_key-requires-clause-asked c = grind (arith, common_steps)

pub invariant_of-self : goal.invariant_of-self
unfolding stepping_of
invariant_of-self c = grind (arith, common_steps)

pub returns-clause-key : goal.returns-clause-key
unfolding stepping_of
returns-clause-key c = search rules
