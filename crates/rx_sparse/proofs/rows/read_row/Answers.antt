use Rattle.rx_spec.proofs.Prelude.{arith, common_steps}
use Rattle.rx_dense.proofs.Rows.{id-times}
use Rattle.rx_sparse.proofs.WrittenRows.{row_parts}
use Rattle.rx_sparse.proofs.rows.read_row.Goals as goal

pub returns : goal.returns
returns g c = grind (arith, common_steps, row_parts, id-times)
