use Rattle.rx_sparse_build.proofs.Served.{sparse_least, sparse_power}
use Rattle.rx_sparse_build.proofs.laws.built_tables_have_their_rows.Goals as goal

pub returns-clause-power : goal.returns-clause-power
returns-clause-power c = sparse_power

pub returns-clause-least : goal.returns-clause-least
returns-clause-least c = sparse_least
