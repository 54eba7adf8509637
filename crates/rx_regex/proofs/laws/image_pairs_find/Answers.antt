use Rattle.rx_regex.proofs.PairImages as images
use Rattle.rx_regex.proofs.laws.image_pairs_find.Goals as goal

pub returns : goal.returns
returns c = images.image_pairs_find
