use Rattle.rx_spec.proofs.Prelude.{◌≡◌, ◌+◌, ◌-◌, ◌*◌, ◌/◌, ◌^◌, ◌<◌, length, arith}
use Rattle.rx_dense.proofs.Renaming.{row_ids, row_more}
use Rattle.rx_dense.proofs.Rows.{stride_shifted}
use Rattle.rx_dense.proofs.dfa.rows.rename_rows.Goals as goal

pub rename-requires-clause-rows : goal.rename-requires-clause-rows
rename-requires-clause-rows c =
    let s = c.args.stride2 in
    let row = c.loop-row.row in
    let width = stride_shifted s c.requires.exponent in
    let n : row * 2 ^ s + c.args.alphabet_len - row * 2 ^ s ≡ c.args.alphabet_len = omega arith in
    rw (width, n)
    (row_ids row c.requires.fits (rw width at c.loop-row-test.true) c.loop-row.invariant
    (λ id. id / 2 ^ s < length c.args.new_ids.now) c.requires.rows)

pub loop-row-preserved : goal.loop-row-preserved
loop-row-preserved c =
    let s = c.args.stride2 in
    let row = c.loop-row.row in
    let width = stride_shifted s c.requires.exponent in
    let n : row * 2 ^ s + c.args.alphabet_len - row * 2 ^ s ≡ c.args.alphabet_len = omega arith in
    rw (width, n)
    (row_more row c.requires.fits (rw width at c.loop-row-test.true) c.loop-row.invariant c.rename.new.ids
    (rw (width, n) at c.rename.ensures))
