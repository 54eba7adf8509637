use Rattle.rx_spec.proofs.Prelude.{arith, common_steps}
use Rattle.rx_expr.proofs.BuiltNfas.{length-nfa}
use Rattle.rx_expr.proofs.thompson.compiler.Compiler.rows_len.Goals as goal

pub returns-clause-value : goal.returns-clause-value
returns-clause-value c = grind (arith, common_steps, length-nfa)
