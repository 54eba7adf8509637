use Rattle.rx_refine.proofs.Prelude.{arith, common_steps, length, mul-le-mul_right, sym, with_items_is, ◌*◌, ◌+◌, ◌∙◌}
use Rattle.rx_refine.proofs.Prelude.{◌≡◌, ◌≤◌}
use Rattle.rx_refine.proofs.TableColumns.{AreColumns-grown}
use Rattle.rx_refine.proofs.columns.columns_of.Goals as goal

pub overflow_mul-most : goal.overflow_mul-most
overflow_mul-most c = grind (arith, common_steps)

pub loop-first-preserved : goal.loop-first-preserved
loop-first-preserved c =
    let few : c.min-count.result ≤ c.min-most.result = grind arith in
    let below : c.loop-first.first + c.min-count.result ≤ c.args.table.now.rows = grind arith in
    let room : c.min-count.result * c.units-units.result ≤ c.min-most.result * c.units-units.result =
    mul-le-mul_right c.units-units.result few in
    let transposed : length c.transpose.new.transposed ≡ c.min-most.result * c.units-units.result =
    grind (arith, common_steps) in
    let old = c.deref_mut.ensures.value in
    let same : length c.add_cells.new.columns ≡ length c.loop-first.columns.items = grind (arith, common_steps) in
    record {
      below = below;
      columns =
          rw (with_items_is c.loop-first.columns c.add_cells.new.columns (same ∙ sym c.loop-first.columns.ok.0))
          (AreColumns-grown c.loop-first.invariant.columns c.min-count.result c.transpose.new.transposed
          (rw (← c.units-units.ensures.units) (omega arith))
          c.transpose.ensures c.add_cells.new.columns same
          (λ unit h. rw old at (c.in_ok-add_cells.ensures unit (rw old h))));
    }
