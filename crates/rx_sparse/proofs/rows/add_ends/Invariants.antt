use Rattle.rx_spec.proofs.Prelude.{◌≡◌, ◌++◌, take}
use Rattle.rx_sparse.proofs.RowTexts.{pairs_text}
use Rattle.rx_sparse.proofs.rows.add_ends.Given as goal

abbrev pub invariant-loop-range : goal.invariant-loop-range
invariant-loop-range l = l.bytes.items ≡ l.fn.bytes.items ++ pairs_text (take l.range-index l.ranges)
