use Rattle.rx_spec.proofs.Prelude.{common_steps, arith}
use Rattle.rx_script.proofs.MadeOnto.{parts_turn, parts_fail, parts_end}
use Rattle.rx_script.proofs.expression.made.Goals as goal

pub items-preserved : goal.items-preserved
items-preserved c = grind (arith, common_steps, parts_turn)

pub returns-in_err-finish : goal.returns-in_err-finish
returns-in_err-finish c = grind (arith, common_steps, parts_fail)

pub returns : goal.returns
returns c = grind (arith, common_steps, parts_end)
