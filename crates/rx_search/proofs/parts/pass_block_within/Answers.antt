use Rattle.rx_spec.proofs.Prelude.{arith, common_steps}
use Rattle.rx_search.proofs.Passing.{leads_none}
use Rattle.rx_search.proofs.parts.pass_block_within.Goals as goal

pub returns-clause-leads : goal.returns-clause-leads
returns-clause-leads g c = grind (arith, common_steps, leads_none)
