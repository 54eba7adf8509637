use Rattle.rx_spec.proofs.Prelude.{common_steps, arith}
use Rattle.rx_dense_image.proofs.put.put_accels.Goals as goal

pub loop-i-init : goal.loop-i-init
loop-i-init g c = grind (arith, common_steps)

pub loop-i-preserved : goal.loop-i-preserved
loop-i-preserved g c = grind (arith, common_steps)

pub returns-clause-put : goal.returns-clause-put
returns-clause-put g c = grind (arith, common_steps)
