use Rattle.rx_spec.proofs.Prelude.{◌≡◌, ◌++◌, map, take}
use Rattle.rx_wire.specs.declared.order.Order.TheVariants.{Little}
use Rattle.rx_sparse.specs.declared.ranges.ClassRange.{ClassRange}
use Rattle.rx_sparse.specs.Reading.{offset_in}
use Rattle.rx_sparse.specs.Rows.{words_text}
use Rattle.rx_sparse.proofs.rows.ReadRow.add_next_ids.Given as goal

abbrev pub invariant-loop-range : goal.invariant-loop-range
invariant-loop-range l =
    l.bytes.items
    ≡ l.fn.bytes.items
    ++ words_text Little (map (λ (r : ClassRange). offset_in l.offsets r.next) (take l.range-index l.self.ranges.now))
