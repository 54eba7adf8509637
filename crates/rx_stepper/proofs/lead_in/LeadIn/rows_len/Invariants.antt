use Rattle.rx_spec.proofs.Prelude.{◌≡◌, ◌+◌, length, take, sum_by}
use Rattle.rx_stepper.proofs.Prelude.{bit}
use Rattle.rx_stepper.proofs.Members.{was}
use Rattle.rx_stepper.proofs.lead_in.LeadIn.rows_len.Given as goal

-- the rows of the lead-in that were not met among the own ones so far
abbrev pub invariant-loop-row : goal.invariant-loop-row
invariant-loop-row l =
    l.others + sum_by (λ q. bit (was l.self.rows.items q)) (take l.row-index l.own) ≡ length l.self.rows.items
