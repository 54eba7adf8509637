use Rattle.rx_dense_image.proofs.WholeAgain.{whole_again}
use Rattle.rx_dense_image.proofs.laws.images_are_read_again.Goals as goal

pub returns : goal.returns
returns c = λ order l whole rest. whole_again order l whole rest
