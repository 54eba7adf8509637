use Rattle.rx_spec.proofs.Prelude.{◌≡◌, ℕ, ◌<◌, ◌||◌, map, drop, contains}
use Rattle.rx_expr.specs.NfaRows.{row_of, rows_part}
use Rattle.rx_expr.proofs.thompson.classes.byte_class_set.Given as goal

abbrev pub invariant-loop-row : goal.invariant-loop-row
invariant-loop-row l =
    let left = map row_of (drop l.row-index l.rows) in
    (b : ℕ) → b < 255
    → (contains l.classes b || rows_part l.line_terminator left b) ≡ rows_part l.line_terminator (map row_of l.rows) b
