use Rattle.rx_equal.proofs.PartingsLaws.{starts_of_no_pattern}
use Rattle.rx_equal.proofs.laws.starts_of_no_pattern.Goals as goal

pub returns : goal.returns
returns c = starts_of_no_pattern
