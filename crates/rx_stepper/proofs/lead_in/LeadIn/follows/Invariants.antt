use Rattle.rx_spec.proofs.Prelude.{◌≡◌, ◌≤◌, length, drop, bytes_eq}
use Rattle.rx_stepper.proofs.Prelude.{without}
use Rattle.rx_stepper.proofs.lead_in.LeadIn.follows.Given as goal

abbrev pub invariant-loop-row : goal.invariant-loop-row
invariant-loop-row l = record {
  within : l.place ≤ length l.rows;
  same : bytes_eq (without l.own l.self.rows.items) l.rows
      ≡ bytes_eq (without l.own (drop l.row-index l.self.rows.items)) (drop l.place l.rows);
}
