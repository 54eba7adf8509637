use Rattle.rx_spec.proofs.Prelude.{common_steps, arith}
use Rattle.rx_search.proofs.Needles.{last_of_one, last_of_two, last_of_three}
use Rattle.rx_search.proofs.skip.last_needle.Goals as goal

pub returns-in-len1 : goal.returns-in-len1
returns-in-len1 c = grind (arith, common_steps, last_of_one)

pub returns-in-len2 : goal.returns-in-len2
returns-in-len2 c = grind (arith, common_steps, last_of_two)

pub returns-in-len3 : goal.returns-in-len3
returns-in-len3 c = grind (arith, common_steps, last_of_three)
