use Rattle.rx_spec.proofs.Prelude.{common_steps, arith}
use Rattle.rx_sparse.proofs.DenseRanges.{ranges_few}
use Rattle.rx_sparse.proofs.to_sparse.add_row.Goals as goal

pub add_to-requires-clause-few : goal.add_to-requires-clause-few
add_to-requires-clause-few g c = grind (arith, common_steps, ranges_few)
