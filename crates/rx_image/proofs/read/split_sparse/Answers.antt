use Rattle.rx_image.proofs.Lengths.{sparse_within}
use Rattle.rx_image.proofs.read.split_sparse.Goals as goal

pub after-requires : goal.after-requires
after-requires c = sparse_within c.args.bytes.now c.in_ok-table.ensures.read
