use Rattle.rx_spec.proofs.Prelude.{common_steps, arith}
use Rattle.rx_dense.proofs.AccelLists.{accel_lists_len, accel_lists_at}
use Rattle.rx_dense.proofs.accel.Accels.needles.Goals as goal

pub overflow_mul-i : goal.overflow_mul-i
overflow_mul-i c = grind (arith, common_steps, accel_lists_len)

pub offset_bounds-words-i : goal.offset_bounds-words-i
offset_bounds-words-i c = grind (arith, common_steps, accel_lists_len)

pub bounds-words-i : goal.bounds-words-i
bounds-words-i c = grind (arith, common_steps, accel_lists_len)

pub returns : goal.returns
returns c = grind (arith, common_steps, accel_lists_at)
