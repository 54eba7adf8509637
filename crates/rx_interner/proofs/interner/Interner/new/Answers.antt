use Rattle.std.proofs.Common.{rules}
use Rattle.rx_interner.proofs.Indexes.{index_empty}
use Rattle.rx_interner.proofs.interner.Interner.new.Goals as goal

pub invariant_of-result : goal.invariant_of-result
invariant_of-result c = index_empty c.new.ensures (λ hash. search rules)
