use Rattle.rx_dense.specs.Builder.{IsMovedDown}
use Rattle.rx_dense.proofs.dfa.rows.move_row_down.Given as goal

abbrev pub invariant-loop-column : goal.invariant-loop-column
invariant-loop-column l = IsMovedDown l.stride2 l.new_ids l.column l.fn.words l.words l.from l.to
