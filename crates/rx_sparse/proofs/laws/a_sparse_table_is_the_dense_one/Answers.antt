use Rattle.rx_sparse.proofs.SparseShapes.{sparse_shaped}
use Rattle.rx_sparse.proofs.SparseTables.{same_table, sparse_sound, walks_same}
use Rattle.rx_sparse.proofs.laws.a_sparse_table_is_the_dense_one.Goals as goal

pub returns-clause-same : goal.returns-clause-same
returns-clause-same c = same_table

pub returns-clause-walks : goal.returns-clause-walks
returns-clause-walks c = λ l shaped special sound mode start word is.
    walks_same (same_table l shaped special) sound.is_table mode start word is

pub returns-clause-sound : goal.returns-clause-sound
returns-clause-sound c = sparse_sound

pub returns-clause-shaped : goal.returns-clause-shaped
returns-clause-shaped c = sparse_shaped
