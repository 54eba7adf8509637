use Rattle.rx_spec.proofs.Prelude.{common_steps, arith}
use Rattle.rx_image_parts.proofs.Behind.{and_then}
use Rattle.rx_sparse_image.proofs.put.put_starts.Goals as goal

pub put_word-end-requires : goal.put_word-end-requires
put_word-end-requires g c = grind (arith, common_steps)

pub loop-i-init : goal.loop-i-init
loop-i-init g c = grind (arith, common_steps)

pub loop-i-preserved : goal.loop-i-preserved
loop-i-preserved g c = grind (arith, common_steps, and_then)

pub returns-clause-put : goal.returns-clause-put
returns-clause-put g c = grind (arith, common_steps)
