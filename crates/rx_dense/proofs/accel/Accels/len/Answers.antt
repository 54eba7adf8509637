use Rattle.rx_spec.proofs.Prelude.{ap, length, arith}
use Rattle.rx_dense.proofs.AccelLists.{accel_lists_len}
use Rattle.rx_dense.proofs.accel.Accels.len.Goals as goal

pub returns-clause-value : goal.returns-clause-value
returns-clause-value c = omega (arith, accel_lists_len c.words.result.now, ap length c.words.ensures.value)
