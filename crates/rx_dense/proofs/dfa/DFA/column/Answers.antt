use Rattle.rx_spec.proofs.Prelude.{common_steps, arith}
use Rattle.rx_dense.proofs.Rows.{class_column}
use Rattle.rx_dense.proofs.dfa.DFA.column.Goals as goal

pub returns-in-Byte-clause-within : goal.returns-in-Byte-clause-within
returns-in-Byte-clause-within g c = grind (arith, common_steps, class_column)
