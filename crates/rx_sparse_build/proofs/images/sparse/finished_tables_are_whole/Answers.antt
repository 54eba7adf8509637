use Rattle.rx_sparse_build.proofs.images.sparse.finished_tables_are_whole.Goals as goal
use Rattle.rx_sparse_build.proofs.Whole as finished
use Rattle.rx_sparse_build.proofs.SparseWhole.{whole}

pub returns : goal.returns
returns c = λ l is short. whole l (finished.whole l is) short
