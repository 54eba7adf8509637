use Rattle.rx_spec.proofs.Prelude.{◌≡◌, ℕ, ◌<◌, true}
use Rattle.rx_sparse_image.specs.Walks.{is_range_at}
use Rattle.rx_sparse_image.proofs.rows.Bounds.are_ends.Given as goal

abbrev pub invariant-loop-i : goal.invariant-loop-i
invariant-loop-i l = (k : ℕ) → k < l.i → is_range_at l.self.last_class l.ends k ≡ true
