use Rattle.rx_spec.proofs.Prelude.{common_steps, arith, decimal_digit}
use Rattle.rx_main.proofs.laws.differ_lines.Goals as goal

pub returns : goal.returns
returns c = grind (arith, common_steps, decimal_digit)
