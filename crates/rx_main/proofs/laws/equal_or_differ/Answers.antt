use Rattle.rx_main.proofs.EqualReplies.{equal_once, not_both}
use Rattle.rx_main.proofs.laws.equal_or_differ.Goals as goal

pub returns : goal.returns
returns c = λ t u reply h. (λ other k. not_both t u reply other h k, λ other k. equal_once t u reply other h k)
