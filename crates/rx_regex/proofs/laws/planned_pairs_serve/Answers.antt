use Rattle.rx_regex.proofs.Served.{serve_planned}
use Rattle.rx_regex.proofs.laws.planned_pairs_serve.Goals as goal

pub returns : goal.returns
returns c = λ both es pair is built. serve_planned both es is pair built
