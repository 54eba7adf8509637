use Rattle.rx_spec.proofs.Prelude.{arith, ◌*◌, ◌+◌, ◌/◌, ◌^◌, ◌<◌, All-get_or, length, slice_index, pow_pos}
use Rattle.rx_dense.proofs.KeptRows.{lies_apart, row_down, row_shifted, unmoved}
use Rattle.rx_dense.proofs.Rows.{multiple_below}
use Rattle.rx_dense.proofs.dfa.rows.move_rows_down.Goals as goal

pub move_row_down-requires-clause-down : goal.move_row_down-requires-clause-down
move_row_down-requires-clause-down c =
    let place = c.loop-place.place in
    let row = slice_index c.args.rows.now place in
    let down = c.requires.down place c.loop-place-test.true in
    rw (
      row_shifted c.args.stride2 place c.requires.exponent (omega (arith, down, c.type_inv.rows place)),
      row_shifted c.args.stride2 row c.requires.exponent (omega (arith, c.type_inv.rows place)),
    )
    (lies_apart c.args.stride2 c.args.alphabet_len place row c.requires.fits down)

pub move_row_down-requires-clause-ids : goal.move_row_down-requires-clause-ids
move_row_down-requires-clause-ids c k h =
    let place = c.loop-place.place in
    let row = slice_index c.args.rows.now place in
    let within = c.requires.within place c.loop-place-test.true in
    let behind = multiple_below row (2 ^ c.args.stride2) (length c.args.words.now) (pow_pos c.args.stride2) within in
    let there : row * 2 ^ c.args.stride2 + k < length c.args.words.now = omega (arith, behind, h, c.requires.fits) in
    rw (
      row_shifted c.args.stride2 row c.requires.exponent (omega (arith, c.type_inv.rows place)),
      unmoved c.requires.fits c.requires.down c.loop-place-test.true c.loop-place.invariant k,
    )
    (All-get_or (λ id. id / 2 ^ c.args.stride2 < length c.args.new_ids.now) c.args.words.now
    (row * 2 ^ c.args.stride2 + k) 0 there c.requires.ids)

pub loop-place-preserved : goal.loop-place-preserved
loop-place-preserved c =
    let place = c.loop-place.place in
    let row = slice_index c.args.rows.now place in
    let down = c.requires.down place c.loop-place-test.true in
    let low = row_shifted c.args.stride2 place c.requires.exponent (omega (arith, down, c.type_inv.rows place)) in
    let high = row_shifted c.args.stride2 row c.requires.exponent (omega (arith, c.type_inv.rows place)) in
    row_down c.requires.fits c.requires.down c.loop-place-test.true c.loop-place.invariant
    (rw (low, high) at c.move_row_down.ensures)
