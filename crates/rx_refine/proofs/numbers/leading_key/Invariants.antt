use Rattle.rx_refine.proofs.LeadingKey.{IsVoting}
use Rattle.rx_refine.proofs.numbers.leading_key.Given as goal

abbrev pub invariant-loop-row : goal.invariant-loop-row
invariant-loop-row l = IsVoting l.members l.keys l.row-index l.leading l.votes
