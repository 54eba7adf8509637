use Rattle.rx_spec.proofs.Prelude.{arith, common_steps}
use Rattle.rx_base.proofs.ByteSets.{contains-without_low, contains-without_high}
use Rattle.rx_base.proofs.byte_set.ByteSet.remove.Goals as goal

pub returns-then-byte-lt-HALF : goal.returns-then-byte-lt-HALF
returns-then-byte-lt-HALF c other = grind (arith, common_steps, contains-without_low)

pub returns-else-byte-lt-HALF : goal.returns-else-byte-lt-HALF
returns-else-byte-lt-HALF c other = grind (arith, common_steps, contains-without_high)
