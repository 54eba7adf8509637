use Rattle.rx_spec.proofs.Prelude.{◌≡◌, ℕ, ◌<◌, Ok}
use Rattle.rx_sparse.specs.Rows.{word_at}
use Rattle.rx_sparse_image.specs.Walks.{tested_pattern}
use Rattle.rx_sparse_image.proofs.rows.Bounds.after_patterns.Given as goal

abbrev pub invariant-each : goal.invariant-each
invariant-each l =
    (k : ℕ) → k < l.i → tested_pattern l.self (word_at l.self.order l.ids k) ≡ Ok (word_at l.self.order l.ids k)
