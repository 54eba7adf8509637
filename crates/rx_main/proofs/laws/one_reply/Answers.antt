use Rattle.rx_main.proofs.OneReply.{one_reply}
use Rattle.rx_main.proofs.laws.one_reply.Goals as goal

pub returns : goal.returns
returns c = λ words bytes ended also_ended reply other h k. one_reply words bytes ended also_ended reply other h k
