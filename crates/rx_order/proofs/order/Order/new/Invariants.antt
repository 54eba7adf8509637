use Rattle.rx_spec.proofs.Prelude.{◌≡◌, ℕ, ◌<◌, length, slice_index}
use Rattle.rx_order.proofs.ByKind.{AreSorted, IsEnd}
use Rattle.rx_order.proofs.order.Order.new.Given as goal

abbrev pub invariant-loop-kind : goal.invariant-loop-kind
invariant-loop-kind l = record {
  sorted : AreSorted l.kinds l.ranks l.sorted.items;
  count : length l.ends ≡ 8;
  ends : (kind : ℕ) → kind < l.kind-counter → IsEnd l.sorted.items kind (slice_index l.ends kind);
}
