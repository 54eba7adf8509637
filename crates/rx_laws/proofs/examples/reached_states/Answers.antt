use Rattle.rx_spec.proofs.Prelude.{rules}
use Rattle.rx_laws.proofs.Letter.{reached_forward, reached_in_reverse}
use Rattle.rx_laws.proofs.examples.reached_states.Goals as goal

pub returns : goal.returns
returns c = search (rules, reached_forward, reached_in_reverse)
