use Rattle.rx_spec.proofs.Prelude.{arith, rules, common_steps}
use Rattle.std.proofs.lemmas.Nat.{xor_lt}
use Rattle.rx_base.proofs.ByteSets.{contains-ends, half-fits, next_low-fits}
use Rattle.rx_base.proofs.byte_set.ByteSet.ends.Goals as goal

pub invariant_of-result : goal.invariant_of-result
invariant_of-result c = search (rules, xor_lt, next_low-fits, half-fits)

pub returns : goal.returns
returns c b below = grind (arith, common_steps, contains-ends)
