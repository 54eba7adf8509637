use Rattle.rx_spec.proofs.Prelude.{◌≡◌, ◌*◌, ◌^◌, map, range_with_len}
use Rattle.rx_order.proofs.places.Places.new.Given as goal

abbrev pub invariant-loop-row : goal.invariant-loop-row
invariant-loop-row l = l.ids.items ≡ map (λ row. row * 2 ^ l.dfa.stride2) (range_with_len 0 l.row)
