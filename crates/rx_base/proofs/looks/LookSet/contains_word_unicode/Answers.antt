use Rattle.rx_spec.proofs.Prelude.{common_steps, arith}
use Rattle.rx_base.proofs.looks.LookSet.contains_word_unicode.Goals as goal

pub returns-then-contains : goal.returns-then-contains
returns-then-contains c = grind (arith, common_steps)

pub loop-look-preserved : goal.loop-look-preserved
loop-look-preserved c = grind (arith, common_steps)

pub returns : goal.returns
returns c = grind (arith, common_steps)
