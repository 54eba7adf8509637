use Rattle.rx_spec.proofs.Prelude.{arith, common_steps}
use Rattle.rx_sparse.proofs.ReadRanges.{all_read, eoi_read, read_byte, read_eoi, read_first}
use Rattle.rx_sparse.proofs.ranges.read_ranges.Goals as goal

pub loop-first-init : goal.loop-first-init
loop-first-init c =
    rw (
      c.into_iter-first-iterator.ensures.into_iter_gives,
      c.sparse_transitions-first-items.ensures,
      c.clear.ensures.items,
    )
    (read_first c.args.row.now.next_ids)

pub loop-first-preserved-in-Continue-1 : goal.loop-first-preserved-in-Continue-1
loop-first-preserved-in-Continue-1 c = grind (arith, common_steps, read_byte)

pub loop-first-preserved : goal.loop-first-preserved
loop-first-preserved c = grind (arith, common_steps, read_eoi)

pub returns-clause-ranges : goal.returns-clause-ranges
returns-clause-ranges c = all_read c.loop-first.invariant (c.in-None.ensures.steps).0

pub returns-clause-eoi : goal.returns-clause-eoi
returns-clause-eoi c = eoi_read c.loop-first.invariant (c.in-None.ensures.steps).0
