use Rattle.rx_spec.proofs.Prelude.{◌≡◌, ℕ, ◌<◌, length, row_at}
use Rattle.rx_stepper.proofs.Prelude.{IsThin, meaning, row_of_thin, thin_at}
use Rattle.rx_stepper.proofs.thin_row.thin_rows.Given as goal

abbrev pub invariant-loop-row : goal.invariant-loop-row
invariant-loop-row l = record {
  len : length l.thin.items ≡ l.row-index;
  each : (q : ℕ) → q < l.row-index → IsThin (row_of_thin (thin_at l.thin.items q)) (row_at (meaning l.nfa).rows q);
}
