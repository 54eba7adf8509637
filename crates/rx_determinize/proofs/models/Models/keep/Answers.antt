use Rattle.rx_spec.proofs.Prelude.{common_steps, arith}
use Rattle.rx_determinize.proofs.models.Models.keep.Goals as goal

pub returns-else-context-lt32 : goal.returns-else-context-lt32
returns-else-context-lt32 c = grind (arith, common_steps)
