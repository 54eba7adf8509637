use Rattle.rx_spec.proofs.Prelude.{◌≡◌, ℕ, ◌<◌, ◌≤◌, slice_index}
use Rattle.rx_order.proofs.order.Order.keeps_matches.Given as goal

abbrev pub invariant-loop-place : goal.invariant-loop-place
invariant-loop-place l =
    (place : ℕ) → slice_index l.self.ends 1 ≤ place → place < l.place → slice_index l.self.rows.items place ≡ place
