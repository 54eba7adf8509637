use Rattle.rx_spec.proofs.Prelude.{◌≡◌, ◌++◌, take}
use Rattle.rx_stepper.proofs.current.push_rows.Given as goal

abbrev pub invariant-loop-number : goal.invariant-loop-number
invariant-loop-number l = l.rows.items ≡ l.fn.rows.items ++ take l.number-index l.numbers
