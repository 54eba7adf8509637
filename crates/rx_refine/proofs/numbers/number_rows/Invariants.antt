use Rattle.rx_refine.proofs.NumberedRows.{IsNumbering}
use Rattle.rx_refine.proofs.numbers.number_rows.Given as goal

abbrev pub invariant-loop-row : goal.invariant-loop-row
invariant-loop-row l =
    IsNumbering
    (record { members = l.members; keys = l.keys; kept = l.kept; first = l.first; old = l.fn.blocks })
    l.row-index l.names l.blocks l.count
