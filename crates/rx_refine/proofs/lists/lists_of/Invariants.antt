use Rattle.rx_refine.proofs.Prelude.{AreColumns, ◌++◌}
use Rattle.rx_refine.proofs.lists.lists_of.Given as goal

abbrev pub invariant-loop-column : goal.invariant-loop-column
invariant-loop-column l = AreColumns l.table l.table.rows (l.lists.items ++ l.column-iterator.rest.items)
