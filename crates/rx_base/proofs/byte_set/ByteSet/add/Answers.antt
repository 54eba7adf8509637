use Rattle.rx_spec.proofs.Prelude.{common_steps, arith}
use Rattle.rx_base.proofs.ByteSets.{or-fits, joined-or_low, joined-or_high}
use Rattle.rx_base.proofs.byte_set.ByteSet.add.Goals as goal

pub invariant_of-self : goal.invariant_of-self
invariant_of-self c = grind (arith, common_steps, or-fits)

pub invariant_of-self-else-byte-lt-HALF : goal.invariant_of-self-else-byte-lt-HALF
invariant_of-self-else-byte-lt-HALF c = grind (arith, common_steps, or-fits)

pub returns-then-byte-lt-HALF : goal.returns-then-byte-lt-HALF
returns-then-byte-lt-HALF c = grind (arith, common_steps, joined-or_low)

pub returns-else-byte-lt-HALF : goal.returns-else-byte-lt-HALF
returns-else-byte-lt-HALF c = grind (arith, common_steps, joined-or_high)
