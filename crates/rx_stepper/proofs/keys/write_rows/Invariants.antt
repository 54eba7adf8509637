use Rattle.rx_spec.proofs.Prelude.{◌≡◌, ◌+◌, ◌++◌, length, take}
use Rattle.rx_stepper.proofs.keys.write_rows.Given as goal

abbrev pub invariant-loop-i : goal.invariant-loop-i
invariant-loop-i l = record {
  len : length l.key ≡ length l.fn.key;
  written : take (l.place + l.i) l.key ≡ take l.place l.fn.key ++ take l.i l.rows;
}
