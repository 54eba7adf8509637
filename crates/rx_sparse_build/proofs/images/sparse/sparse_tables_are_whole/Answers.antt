use Rattle.rx_sparse_build.proofs.SparseWhole.{whole}
use Rattle.rx_sparse_build.proofs.images.sparse.sparse_tables_are_whole.Goals as goal

pub returns : goal.returns
returns c = whole
