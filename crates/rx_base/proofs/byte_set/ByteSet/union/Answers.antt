use Rattle.rx_spec.proofs.Prelude.{arith, rules, common_steps, or_lt}
use Rattle.rx_base.proofs.ByteSets.{joined-or}
use Rattle.rx_base.proofs.byte_set.ByteSet.union.Goals as goal

pub invariant_of-result : goal.invariant_of-result
invariant_of-result c = search (rules, or_lt)

pub returns : goal.returns
returns c = grind (arith, common_steps, joined-or)
