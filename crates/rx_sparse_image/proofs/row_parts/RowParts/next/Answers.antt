use Rattle.rx_spec.proofs.Prelude.{common_steps, arith}
use Rattle.rx_sparse.proofs.DecodedRows.{is_there, next-found, next-none, next-passed}
use Rattle.rx_sparse_image.proofs.row_parts.RowParts.next.Goals as goal

pub loop-i-init : goal.loop-i-init
loop-i-init c = grind (arith, common_steps)

pub returns-then-class-self : goal.returns-then-class-self
returns-then-class-self c = grind (arith, common_steps, next-found)

pub loop-i-preserved : goal.loop-i-preserved
loop-i-preserved c = grind (arith, common_steps, is_there, next-passed)

pub returns : goal.returns
returns c = grind (arith, common_steps, next-none)
