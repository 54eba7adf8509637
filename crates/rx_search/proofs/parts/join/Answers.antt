use Rattle.rx_spec.proofs.Prelude.{rules, arith, common_steps}
use Rattle.rx_search.proofs.FourWalks.{through_two, through_three, through_four}
use Rattle.rx_search.proofs.Passing.{same_id}
use Rattle.rx_search.proofs.parts.join.Goals as goal

pub returns-then-ne : goal.returns-then-ne
returns-then-ne g = grind (arith, common_steps)

pub returns-then-ne-2 : goal.returns-then-ne-2
returns-then-ne-2 g = search (rules, through_two, same_id)

pub returns-then-ne-3 : goal.returns-then-ne-3
returns-then-ne-3 g = search (rules, through_three, same_id)

pub returns : goal.returns
returns g = search (rules, through_four, same_id)
