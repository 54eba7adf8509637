use Rattle.rx_image.proofs.Lengths.{dense_within}
use Rattle.rx_image.proofs.read.split_dense.Goals as goal

pub after-requires : goal.after-requires
after-requires c = dense_within c.args.bytes.now c.in_ok-table.ensures.read
