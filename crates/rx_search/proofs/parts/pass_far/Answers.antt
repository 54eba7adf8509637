use Rattle.rx_spec.proofs.Prelude.{rules, arith, common_steps}
use Rattle.rx_search.proofs.Passing.{leads_none, leads_on, no_further_on}
use Rattle.rx_search.proofs.parts.pass_far.Goals as goal

pub turns-init : goal.turns-init
turns-init g c = grind (arith, common_steps, leads_none)

pub turns-preserved-then-block-eq-BLOCK : goal.turns-preserved-then-block-eq-BLOCK
turns-preserved-then-block-eq-BLOCK g c = search (rules, leads_on)

pub returns-then-more-bytes-clause-leads : goal.returns-then-more-bytes-clause-leads
returns-then-more-bytes-clause-leads g c = search (rules, leads_on)

pub returns-then-more-bytes-clause-farthest : goal.returns-then-more-bytes-clause-farthest
returns-then-more-bytes-clause-farthest g c = search (rules, leads_on, no_further_on)

pub returns-clause-farthest : goal.returns-clause-farthest
returns-clause-farthest g c = record { stops = λ h. absurd (omega arith) }

pub turns-preserved : goal.turns-preserved
turns-preserved g c = search (rules, leads_on)
