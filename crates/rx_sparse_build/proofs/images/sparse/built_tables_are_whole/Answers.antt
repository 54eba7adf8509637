use Rattle.rx_sparse_build.proofs.BuiltSparseTables.{built_whole}
use Rattle.rx_sparse_build.proofs.images.sparse.built_tables_are_whole.Goals as goal

pub returns : goal.returns
returns c = built_whole
