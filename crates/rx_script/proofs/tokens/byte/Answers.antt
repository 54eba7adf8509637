use Rattle.rx_spec.proofs.Prelude.{arith, common_steps}
use Rattle.rx_script.proofs.tokens.byte.Goals as goal

pub returns-then-high_value-ge-NO_DIGIT : goal.returns-then-high_value-ge-NO_DIGIT
returns-then-high_value-ge-NO_DIGIT c = grind (arith, common_steps)

pub returns-then-low_value-ge-NO_DIGIT : goal.returns-then-low_value-ge-NO_DIGIT
returns-then-low_value-ge-NO_DIGIT c = grind (arith, common_steps)

pub returns : goal.returns
returns c = grind (arith, common_steps)
