use Rattle.rx_interner.proofs.Chains.{IsReached}
use Rattle.rx_interner.proofs.links.Links.find.Given as goal

abbrev pub invariant-chain : goal.invariant-chain
invariant-chain l = IsReached l.self l.key l.id

abbrev pub decreases-chain : goal.decreases-chain
decreases-chain l = l.id
