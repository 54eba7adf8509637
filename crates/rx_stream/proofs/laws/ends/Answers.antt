use Rattle.rx_stream.proofs.Cuttings.{quit_is_last, quit_tells_no_more}
use Rattle.rx_stream.proofs.Fronts.{dead_tells_nothing}
use Rattle.rx_stream.proofs.laws.ends.Goals as goal

pub returns-clause-last : goal.returns-clause-last
returns-clause-last c = quit_is_last

pub returns-clause-no_more : goal.returns-clause-no_more
returns-clause-no_more c = quit_tells_no_more

pub returns-clause-dead : goal.returns-clause-dead
returns-clause-dead c = dead_tells_nothing
