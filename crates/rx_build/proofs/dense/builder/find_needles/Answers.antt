use Rattle.rx_build.proofs.Stages.{accelerated_made}
use Rattle.rx_build.proofs.dense.builder.find_needles.Goals as goal

pub returns-in_ok-accelerate : goal.returns-in_ok-accelerate
returns-in_ok-accelerate c = λ b begun joined marked made.
    rw c.if-yes.true (accelerated_made joined marked made c.in_ok-accelerate.ensures.ok)
