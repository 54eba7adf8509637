use Rattle.rx_spec.proofs.Prelude.{◌/◌, ◌^◌, ◌<◌, ℕ, length, subst, arith}
use Rattle.rx_wire.specs.declared.order.Order.TheVariants.{Little}
use Rattle.rx_sparse.specs.Reading.{offset_in, read_row}
use Rattle.rx_sparse.specs.Rows.{next_ids}
use Rattle.rx_sparse.proofs.RowTexts.{length-next_ids, eoi_there}
use Rattle.rx_sparse.proofs.WrittenRows.{if_ok, next_ids-put, range_id}
use Rattle.rx_sparse.proofs.rows.ReadRow.add_next_ids.Goals as goal

pub offset-requires-clause-within : goal.offset-requires-clause-within
offset-requires-clause-within c =
    let o = c.args.offsets.now in
    let row = read_row c.args.self.now in
    let i = c.loop-range.range-index in
    let low : i < length row.ranges = omega arith in
    let within : i < length (next_ids row) = omega (arith, length-next_ids row) in
    subst (λ (id : ℕ). id / 2 ^ o.stride2 < length o.ids.items) (range_id row i low) (c.requires.within i within)

pub offset-requires-2-clause-within : goal.offset-requires-2-clause-within
offset-requires-2-clause-within c =
    let o = c.args.offsets.now in
    let row = read_row c.args.self.now in
    subst (λ (id : ℕ). id / 2 ^ o.stride2 < length o.ids.items) (eoi_there row.ranges row.eoi)
    (c.requires.within (length row.ranges) (omega (arith, length-next_ids row)))

pub returns : goal.returns
returns c =
    let row = read_row c.args.self.now in
    if_ok c.add_word-2.result c.add_word-2.ensures
    (λ x last.
    next_ids-put (offset_in c.args.offsets.now) Little row c.args.bytes.now.items c.loop-range.range-index (omega arith)
    c.loop-range.invariant (rw c.offset-2.ensures at last))
