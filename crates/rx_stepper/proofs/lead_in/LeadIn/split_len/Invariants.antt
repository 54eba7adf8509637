use Rattle.rx_stepper.proofs.LeadSplits.{IsSplitFrom}
use Rattle.rx_stepper.proofs.lead_in.LeadIn.split_len.Given as goal

-- nothing follows a shorter front; past the last front the rows are all of it
abbrev pub invariant-loop-len : goal.invariant-loop-len
invariant-loop-len l = IsSplitFrom l.self.rows.items l.rows l.len
