-- Two tables that were read, as a pair.
use Rattle.rx_dense.specs.Facts as dense
use Rattle.rx_sparse.specs.Facts as sparse
use Rattle.rx_image.specs.Pairs.{Pair}
use Rattle.rx_image.specs.declared.tables.Tables.{Tables}

abbrev pub pair_of : Tables → Pair
pair_of (Tables.Dense f r) = Pair.Dense f r
pair_of (Tables.Sparse f r) = Pair.Sparse f r

-- both are sound
abbrev pub AreSound : Tables → Type 0
AreSound (Tables.Dense f r) = dense.IsSoundLayout f × dense.IsSoundLayout r
AreSound (Tables.Sparse f r) = sparse.IsSoundLayout f.layout × sparse.IsSoundLayout r.layout
