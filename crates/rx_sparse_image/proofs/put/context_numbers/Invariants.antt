use Rattle.rx_spec.proofs.Prelude.{◌≡◌, ℕ, ◌<◌, length, get_or, slice_index}
use Rattle.rx_spec.specs.declared.Start.{Start}
use Rattle.rx_dense.specs.Layouts.{context_number}
use Rattle.rx_sparse_image.proofs.put.context_numbers.Given as goal

abbrev pub invariant-loop-byte : goal.invariant-loop-byte
invariant-loop-byte g l = record {
  len : length l.numbers ≡ 256;
  each : (k : ℕ) → k < l.byte
      → slice_index l.numbers k ≡ context_number (get_or l.dfa.layout.contexts k Start.NonWordByte);
}
