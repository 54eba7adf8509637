use Rattle.rx_regex.proofs.Served as served
use Rattle.rx_regex.proofs.laws.all_tables_serve.Goals as goal

pub returns : goal.returns
returns c = served.all_tables_serve
