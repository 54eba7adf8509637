use Rattle.rx_spec.proofs.Prelude.{◌≡◌, ℕ, ◌<◌, All, length, slice_index, is_match}
use Rattle.rx_order.proofs.Prelude.{are_needles, is_start_row, kind_by, leaving_of, table_of}
use Rattle.rx_order.proofs.accelerate_rows.kinds.Given as goal

abbrev pub invariant-loop-row : goal.invariant-loop-row
invariant-loop-row l = record {
  count : length l.kinds.items ≡ l.row;
  kinds : (row : ℕ) → row < l.row
      → slice_index l.kinds.items row
      ≡ kind_by row (is_match (table_of l.dfa) row) (are_needles (leaving_of (table_of l.dfa) row))
      (is_start_row l.dfa row);
  below : All (λ kind. kind < 8) l.kinds.items;
}
