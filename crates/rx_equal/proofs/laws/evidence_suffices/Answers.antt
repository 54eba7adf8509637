use Rattle.rx_equal.proofs.Closed.{nothing_parts}
use Rattle.rx_equal.proofs.laws.evidence_suffices.Goals as goal

pub returns : goal.returns
returns c = λ t u links evidence. nothing_parts evidence.closed
