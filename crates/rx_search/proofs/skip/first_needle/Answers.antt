use Rattle.rx_spec.proofs.Prelude.{common_steps, arith}
use Rattle.rx_search.proofs.Needles.{first_of_one, first_of_two, first_of_three}
use Rattle.rx_search.proofs.skip.first_needle.Goals as goal

pub returns-in-len1 : goal.returns-in-len1
returns-in-len1 c = grind (arith, common_steps, first_of_one)

pub returns-in-len2 : goal.returns-in-len2
returns-in-len2 c = grind (arith, common_steps, first_of_two)

pub returns-in-len3 : goal.returns-in-len3
returns-in-len3 c = grind (arith, common_steps, first_of_three)
