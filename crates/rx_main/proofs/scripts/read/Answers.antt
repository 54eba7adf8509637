use Rattle.rx_spec.proofs.Prelude.{arith, common_steps}
use Rattle.rx_main.proofs.scripts.read.Goals as goal

pub returns-in_ok-fault_reply-in-Err-Bad : goal.returns-in_ok-fault_reply-in-Err-Bad
returns-in_ok-fault_reply-in-Err-Bad c = grind (arith, common_steps)
