use Rattle.rx_spec.proofs.Prelude.{common_steps, arith}
use Rattle.rx_script.proofs.LinesAt.{turn_expr, turn_input, turn_input_fails, turn_end, turn_fails}
use Rattle.rx_script.proofs.script.parts.Goals as goal

pub returns-in_err-expr : goal.returns-in_err-expr
returns-in_err-expr c = grind (arith, common_steps, turn_fails)

pub lines-preserved : goal.lines-preserved
lines-preserved c = grind (arith, common_steps, turn_expr)

pub returns-in_err-input-in-Input : goal.returns-in_err-input-in-Input
returns-in_err-input-in-Input c = grind (arith, common_steps, turn_input_fails)

pub returns-in-Input : goal.returns-in-Input
returns-in-Input c = grind (arith, common_steps, turn_input)

pub returns-in-End : goal.returns-in-End
returns-in-End c = grind (arith, common_steps, turn_end)
