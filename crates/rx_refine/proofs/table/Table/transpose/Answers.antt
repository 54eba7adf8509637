use Rattle.rx_refine.proofs.Prelude.{arith}
use Rattle.rx_refine.proofs.TableColumns.{AreTransposed-set, AreTransposed-all}
use Rattle.rx_refine.proofs.table.Table.transpose.Goals as goal

pub loop-unit-preserved : goal.loop-unit-preserved
loop-unit-preserved c =
    rw c.next_row.ensures
    (AreTransposed-set c.loop-unit.invariant c.loop-row-test.true (omega arith) (omega arith))

pub returns : goal.returns
returns c = AreTransposed-all c.loop-row.invariant c.loop-row-test.false
