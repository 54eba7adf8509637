use Rattle.rx_spec.proofs.Prelude.{◌≡◌, range_with_len}
use Rattle.rx_order.proofs.ranks.numbers.Given as goal

abbrev pub invariant-loop-row : goal.invariant-loop-row
invariant-loop-row l = l.numbers.items ≡ range_with_len 0 l.row
