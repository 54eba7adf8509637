use Rattle.rx_spec.proofs.Prelude.{common_steps, arith}
use Rattle.rx_stepper.proofs.LeadSplits.{follows_ends, follows_next, follows_other, follows_passed, follows_short}
use Rattle.rx_stepper.proofs.lead_in.LeadIn.follows.Goals as goal

pub returns-then-place-rows : goal.returns-then-place-rows
returns-then-place-rows c = grind (arith, common_steps, follows_short)

pub returns-then-ne : goal.returns-then-ne
returns-then-ne c = grind (arith, common_steps, follows_other)

pub loop-row-preserved : goal.loop-row-preserved
loop-row-preserved c = grind (arith, common_steps, follows_next, follows_passed)

pub returns : goal.returns
returns c = grind (arith, common_steps, follows_ends)
