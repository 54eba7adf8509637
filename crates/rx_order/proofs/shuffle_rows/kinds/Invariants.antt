use Rattle.rx_spec.proofs.Prelude.{◌≡◌, ℕ, ◌<◌, All, false, length, slice_index}
use Rattle.rx_order.proofs.Prelude.{is_match_row, is_start_row, kind_by}
use Rattle.rx_order.proofs.shuffle_rows.kinds.Given as goal

abbrev pub invariant-loop-row : goal.invariant-loop-row
invariant-loop-row l = record {
  count : length l.kinds.items ≡ l.row;
  kinds : (row : ℕ) → row < l.row
      → slice_index l.kinds.items row
      ≡ kind_by row (is_match_row l.dfa l.fn.matches row) false (is_start_row l.dfa row);
  below : All (λ kind. kind < 8) l.kinds.items;
}
