use Rattle.rx_spec.proofs.Prelude.{common_steps, ◌-◌, arith}
use Rattle.rx_stepper.proofs.LeadSplits.{split_begins, split_found, split_passed}
use Rattle.rx_stepper.proofs.lead_in.LeadIn.split_len.Goals as goal

pub loop-len-init : goal.loop-len-init
loop-len-init c = split_begins c.args.self.now.rows.items c.args.rows.now

pub loop-len-preserved : goal.loop-len-preserved
loop-len-preserved c = grind (arith, common_steps, split_passed)

pub returns-then-follows : goal.returns-then-follows
returns-then-follows c = grind (arith, common_steps, split_found)

pub returns : goal.returns
returns c = c.loop-len.invariant.over (omega arith)
