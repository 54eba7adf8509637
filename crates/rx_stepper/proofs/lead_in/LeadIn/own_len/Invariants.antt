use Rattle.rx_stepper.proofs.LeadPlaces.{Trimmed}
use Rattle.rx_stepper.proofs.lead_in.LeadIn.own_len.Given as goal

abbrev pub invariant-loop-len : goal.invariant-loop-len
invariant-loop-len l = Trimmed l.self.rows.items l.own l.len l.met

abbrev pub decreases-loop-len : goal.decreases-loop-len
decreases-loop-len l = l.len
