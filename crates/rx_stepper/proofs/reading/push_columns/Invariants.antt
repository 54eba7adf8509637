use Rattle.rx_spec.proofs.Prelude.{◌≡◌, ◌++◌, ℕ, map, filter, slice_index, range_with_len, contains}
use Rattle.rx_stepper.proofs.Prelude.{unit_number}
use Rattle.rx_stepper.proofs.reading.push_columns.Given as goal

abbrev pub invariant-loop-column : goal.invariant-loop-column
invariant-loop-column l =
    let read = λ (column : ℕ). contains l.set (slice_index (map unit_number l.units) column) in
    l.columns.items ≡ l.fn.columns.items ++ filter read (range_with_len 0 l.column)
