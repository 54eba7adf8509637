use Rattle.rx_spec.proofs.Prelude.{common_steps, arith}
use Rattle.rx_dense.proofs.Marks.{marked_more}
use Rattle.rx_dense.proofs.dfa.marks.DFA+Vec+u32.made_marks.Goals as goal

pub loop-place-preserved : goal.loop-place-preserved
loop-place-preserved c = grind (arith, common_steps, marked_more)
