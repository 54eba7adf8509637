use Rattle.rx_spec.proofs.Prelude.{◌≡◌, range_with_len}
use Rattle.rx_order.proofs.remapper.Remapper.new.Given as goal

abbrev pub invariant-loop-row : goal.invariant-loop-row
invariant-loop-row g l = l.rows.items ≡ range_with_len 0 l.row
