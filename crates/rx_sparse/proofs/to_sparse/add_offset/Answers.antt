use Rattle.rx_spec.proofs.Prelude.{common_steps, arith}
use Rattle.rx_sparse.proofs.DenseRanges.{ranges_few}
use Rattle.rx_sparse.proofs.to_sparse.add_offset.Goals as goal

pub len-requires : goal.len-requires
len-requires g c = grind (arith, common_steps, ranges_few)
