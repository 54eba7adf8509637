use Rattle.rx_spec.proofs.Prelude.{common_steps, arith}
use Rattle.rx_expr.proofs.thompson.nfa.look_set_any.Goals as goal

pub loop-row-preserved : goal.loop-row-preserved
loop-row-preserved c look = grind (arith, common_steps)

pub returns : goal.returns
returns c look = grind (arith, common_steps)
