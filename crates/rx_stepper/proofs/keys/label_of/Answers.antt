use Rattle.rx_spec.proofs.Prelude.{common_steps, [], ◌-◌, arith}
use Rattle.rx_stepper.proofs.Prelude.{label_of}
use Rattle.rx_stepper.proofs.keys.label_of.Goals as goal

pub returns-then-key-lt3 : goal.returns-then-key-lt3
unfolding label_of
returns-then-key-lt3 c = grind (arith, common_steps)

pub returns-then-numbers-len : goal.returns-then-numbers-len
unfolding label_of
returns-then-numbers-len c = grind (arith, common_steps)

pub returns-else-numbers-len : goal.returns-else-numbers-len
unfolding label_of
returns-else-numbers-len c = grind (arith, common_steps)
