use Rattle.rx_spec.proofs.Prelude.{common_steps, arith}
use Rattle.rx_expr.proofs.thompson.classes.byte_class_set.Goals as goal

pub loop-row-init : goal.loop-row-init
loop-row-init c b below = grind (arith, common_steps)

pub loop-row-preserved : goal.loop-row-preserved
loop-row-preserved c b below = grind (arith, common_steps)

pub returns : goal.returns
returns c b below = grind (arith, common_steps)
