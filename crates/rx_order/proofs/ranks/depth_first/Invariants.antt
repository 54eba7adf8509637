use Rattle.rx_spec.proofs.Prelude.{◌≡◌, ℕ, ◌<◌, length, slice_index}
use Rattle.rx_order.proofs.Prelude.{row_count}
use Rattle.rx_order.proofs.DepthFirst.{AreLeft, IsLeft}
use Rattle.rx_order.proofs.ranks.depth_first.Given as goal

abbrev pub invariant-loop-id : goal.invariant-loop-id
invariant-loop-id l = record {
  found : length l.found.items ≡ row_count l.dfa;
  left : AreLeft l.dfa l.left.items;
}

abbrev pub invariant-loop-step : goal.invariant-loop-step
invariant-loop-step l = record {
  found : length l.found.items ≡ row_count l.dfa;
  left : AreLeft l.dfa l.left.items;
  own : IsLeft l.dfa (l.row, l.count);
  count : length l.ranks.items ≡ row_count l.dfa;
  matches : (row : ℕ) → row < row_count l.dfa → slice_index l.kinds row ≡ 2 → slice_index l.ranks.items row ≡ row;
}
