use Rattle.rx_spec.proofs.Prelude.{common_steps, arith}
use Rattle.rx_dense_image.proofs.put.put_words.Goals as goal

pub loop-word-init : goal.loop-word-init
loop-word-init g c = grind (arith, common_steps)

pub loop-word-preserved : goal.loop-word-preserved
loop-word-preserved g c = grind (arith, common_steps)

pub returns-clause-put : goal.returns-clause-put
returns-clause-put g c = grind (arith, common_steps)
