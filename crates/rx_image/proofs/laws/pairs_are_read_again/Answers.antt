use Rattle.rx_image.proofs.ReadAgain.{pair_again}
use Rattle.rx_image.proofs.laws.pairs_are_read_again.Goals as goal

pub returns : goal.returns
returns c = λ order p whole same rest. pair_again order p whole same rest
