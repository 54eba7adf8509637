use Rattle.rx_refine.proofs.Prelude.{AreColumns, ◌-◌, ◌≤◌}
use Rattle.rx_refine.proofs.columns.columns_of.Given as goal

abbrev pub invariant-loop-first : goal.invariant-loop-first
invariant-loop-first l = record {
  below : l.first ≤ l.table.rows;
  columns : AreColumns l.table l.first l.columns.items;
}

abbrev pub decreases-loop-first : goal.decreases-loop-first
decreases-loop-first l = l.table.rows - l.first
