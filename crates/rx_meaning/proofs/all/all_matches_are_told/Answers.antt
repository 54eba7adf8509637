use Rattle.rx_meaning.proofs.AllMatches.{all_are_told}
use Rattle.rx_meaning.proofs.all.all_matches_are_told.Goals as goal

pub returns : goal.returns
returns c = all_are_told
