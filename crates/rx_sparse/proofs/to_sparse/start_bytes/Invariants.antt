use Rattle.rx_spec.proofs.Prelude.{◌≡◌, map, take}
use Rattle.rx_wire.specs.declared.order.Order.TheVariants.{Little}
use Rattle.rx_sparse.specs.Reading.{offset_in}
use Rattle.rx_sparse.specs.Rows.{words_text}
use Rattle.rx_sparse.proofs.to_sparse.start_bytes.Given as goal

abbrev pub invariant-loop-id : goal.invariant-loop-id
invariant-loop-id g l = l.bytes.items ≡ words_text Little (map (offset_in l.offsets) (take l.id-index l.ids))
