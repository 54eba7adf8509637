use Rattle.rx_spec.proofs.Prelude.{common_steps, arith, length-map-range_with_len, get_or-map-range_with_len}
use Rattle.rx_dense_image.proofs.Accelerators.{accels_len, one_accel_more}
use Rattle.rx_dense_image.proofs.marks.accels_of.Goals as goal

pub add-requires : goal.add-requires
add-requires c = grind (arith, common_steps, accels_len)

pub loop-i-preserved : goal.loop-i-preserved
loop-i-preserved c = grind (arith, common_steps, one_accel_more)

pub returns-clause-read : goal.returns-clause-read
returns-clause-read c = grind (arith, common_steps, length-map-range_with_len, get_or-map-range_with_len)
