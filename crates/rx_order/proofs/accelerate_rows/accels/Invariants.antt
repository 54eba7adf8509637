use Rattle.rx_spec.proofs.Prelude.{◌≡◌, ◌-◌, map, slice_index, range_with_len}
use Rattle.rx_order.proofs.Prelude.{leaving_of, table_of}
use Rattle.rx_order.proofs.accelerate_rows.accels.Given as goal

abbrev pub invariant-loop-place : goal.invariant-loop-place
invariant-loop-place l =
    l.accels
    ≡ map (λ place. leaving_of (table_of l.dfa) (slice_index l.order.rows.items place))
    (range_with_len (slice_index l.order.ends 2) (l.place - slice_index l.order.ends 2))
