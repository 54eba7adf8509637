use Rattle.rx_feed.proofs.OneAnswer.{feed_once}
use Rattle.rx_feed.proofs.laws.one_answer.Goals as goal

pub returns : goal.returns
returns c = feed_once
