use Rattle.rx_refine.proofs.Prelude.{◌*◌, ◌+◌}
use Rattle.rx_refine.proofs.TableColumns.{AreTransposed}
use Rattle.rx_refine.proofs.table.Table.transpose.Given as goal

abbrev pub invariant-loop-row : goal.invariant-loop-row
invariant-loop-row l = AreTransposed l.self l.first l.count (l.row * l.self.units) l.transposed

abbrev pub invariant-loop-unit : goal.invariant-loop-unit
invariant-loop-unit l = AreTransposed l.self l.first l.count (l.row * l.self.units + l.unit) l.transposed
