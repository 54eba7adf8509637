use Rattle.rx_spec.proofs.Prelude.{◌≡◌, ℕ, ◌+◌, ◌<◌, ◌≤◌, length, slice_index, take}
use Rattle.rx_dense_image.specs.Counts.{strangers}
use Rattle.rx_dense_image.proofs.closing.strangers.Given as goal

abbrev pub invariant-loop-i : goal.invariant-loop-i
invariant-loop-i l = record {
  len : length l.counts.items ≡ length l.ids + 1;
  count : l.count ≡ strangers l.pattern_len (take l.i l.ids);
  few : l.count ≤ l.i;
  counts : (k : ℕ) → k < l.i + 1 → slice_index l.counts.items k ≡ strangers l.pattern_len (take k l.ids);
}
