use Rattle.rx_sparse_build.proofs.Served.{built_sound, sparse_serves}
use Rattle.rx_sparse_build.proofs.laws.built_tables_serve.Goals as goal

pub returns-clause-serves : goal.returns-clause-serves
returns-clause-serves c = sparse_serves

pub returns-clause-sound : goal.returns-clause-sound
returns-clause-sound c = built_sound
