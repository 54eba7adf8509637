use Rattle.rx_spec.proofs.Prelude.{arith, common_steps}
use Rattle.rx_image_parts.proofs.Behind.{and_then}
use Rattle.rx_sparse_image.proofs.put.put_start_table.Goals as goal

pub returns-clause-put : goal.returns-clause-put
returns-clause-put g c = grind (arith, common_steps, and_then)
