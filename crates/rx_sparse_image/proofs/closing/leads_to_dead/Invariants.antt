use Rattle.rx_spec.proofs.Prelude.{◌≡◌, ℕ, ◌<◌, ◌==◌, true}
use Rattle.rx_sparse.specs.Rows.{word_at}
use Rattle.rx_sparse_image.proofs.closing.leads_to_dead.Given as goal

abbrev pub invariant-loop-i : goal.invariant-loop-i
invariant-loop-i l = (k : ℕ) → k < l.i → (word_at l.image.parts.order l.row.next_ids.now k == 0) ≡ true
