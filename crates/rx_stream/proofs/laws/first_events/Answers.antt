use Rattle.rx_stream.proofs.FirstEvents.{first_is_earliest}
use Rattle.rx_stream.proofs.laws.first_events.Goals as goal

pub returns : goal.returns
returns c = first_is_earliest
