use Rattle.rx_equal.proofs.AllStarts.{no_start_parts, nothing_parts_passed_on}
use Rattle.rx_equal.proofs.laws.all_starts.Goals as goal

pub returns-clause-any_mode : goal.returns-clause-any_mode
returns-clause-any_mode c = no_start_parts

pub returns-clause-passed_on : goal.returns-clause-passed_on
returns-clause-passed_on c = nothing_parts_passed_on
