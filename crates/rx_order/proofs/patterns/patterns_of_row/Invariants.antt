use Rattle.rx_spec.proofs.Prelude.{◌≡◌, take, row_of}
use Rattle.rx_order.proofs.Prelude.{ids_of, patterns_of, table_of}
use Rattle.rx_order.proofs.patterns.patterns_of_row.Given as goal

abbrev pub invariant-loop-index : goal.invariant-loop-index
invariant-loop-index l = l.list.items ≡ take l.index (patterns_of (table_of l.dfa) (row_of (ids_of l.dfa) l.id))
