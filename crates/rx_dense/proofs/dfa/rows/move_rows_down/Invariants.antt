use Rattle.rx_dense.specs.Builder.{AreMovedDown}
use Rattle.rx_dense.proofs.dfa.rows.move_rows_down.Given as goal

abbrev pub invariant-loop-place : goal.invariant-loop-place
invariant-loop-place l = AreMovedDown l.stride2 l.alphabet_len l.new_ids l.rows l.place l.fn.words l.words
