use Rattle.rx_sparse_image.proofs.WholeAgain.{whole_again}
use Rattle.rx_sparse_image.proofs.laws.images_are_read_again.Goals as goal

pub returns : goal.returns
returns c = whole_again
