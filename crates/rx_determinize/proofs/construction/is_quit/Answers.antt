use Rattle.rx_spec.proofs.Prelude.{arith, common_steps}
use Rattle.rx_determinize.proofs.Prelude.{contains-empty}
use Rattle.rx_determinize.proofs.construction.is_quit.Goals as goal

pub returns-then-is_empty : goal.returns-then-is_empty
returns-then-is_empty c = grind (arith, common_steps, contains-empty)
