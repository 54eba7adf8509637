use Rattle.rx_build.proofs.Stages.{minimized_made}
use Rattle.rx_build.proofs.dense.builder.join_rows.Goals as goal

pub returns-in_ok-minimize : goal.returns-in_ok-minimize
returns-in_ok-minimize c = λ b begun made. rw c.if-yes.true (minimized_made made c.in_ok-minimize.ensures.ok)
