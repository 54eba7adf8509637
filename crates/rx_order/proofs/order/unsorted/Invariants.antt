use Rattle.rx_spec.proofs.Prelude.{◌≡◌, map, range_with_len}
use Rattle.rx_order.proofs.Prelude.{ranked_row}
use Rattle.rx_order.proofs.order.unsorted.Given as goal

abbrev pub invariant-loop-number : goal.invariant-loop-number
invariant-loop-number l = l.rows.items ≡ map (ranked_row l.kinds l.ranks) (range_with_len 0 l.number)
