use Rattle.rx_spec.proofs.Prelude.{◌≡◌, ℕ, ◌+◌, ◌<◌, ◌≤◌, ◌++◌, length, take, slice_index, max_id}
use Rattle.rx_stepper.proofs.keys.write_patterns.Given as goal

abbrev pub invariant-loop-i : goal.invariant-loop-i
invariant-loop-i l = record {
  len : length l.key ≡ length l.fn.key;
  written : take (l.place + l.i) l.key ≡ take l.place l.fn.key ++ take l.i l.patterns;
  ids : (k : ℕ) → k < l.i → slice_index l.patterns k ≤ max_id;
}
