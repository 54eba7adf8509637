use Rattle.rx_refine.proofs.Prelude.{arith, common_steps, ◌%◌, ◌*◌, ◌^◌, ◌≡◌}
use Rattle.rx_refine.proofs.table.Table.from_ids.Goals as goal

pub invariant_of-result : goal.invariant_of-result
invariant_of-result c =
    let stride : 1 * 2 ^ c.args.stride2 % 18446744073709551616 ≡ 2 ^ c.args.stride2 = grind (arith, common_steps) in
    grind (arith, common_steps, c.requires.few, c.requires.units, c.requires.cells, c.requires.ids)
