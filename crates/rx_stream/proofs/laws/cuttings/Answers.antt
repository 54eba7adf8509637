use Rattle.rx_stream.proofs.Cuttings.{cut_tells_whole, cut_tells_now}
use Rattle.rx_stream.proofs.Fronts.{now_is_front}
use Rattle.rx_stream.proofs.laws.cuttings.Goals as goal

pub returns-clause-whole : goal.returns-clause-whole
returns-clause-whole c = cut_tells_whole

pub returns-clause-now : goal.returns-clause-now
returns-clause-now c = cut_tells_now

pub returns-clause-front : goal.returns-clause-front
returns-clause-front c = now_is_front
