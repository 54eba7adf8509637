use Rattle.rx_spec.proofs.Prelude.{common_steps, arith}
use Rattle.rx_dense.proofs.AccelLists.{accel_lists_at, accel_lists_len}
use Rattle.rx_dense.proofs.dfa.DFA.needles_at.Goals as goal

pub bounds-accel_words-i : goal.bounds-accel_words-i
bounds-accel_words-i g c = grind (arith, common_steps, accel_lists_len)

pub returns : goal.returns
returns g c = grind (arith, common_steps, accel_lists_at)
