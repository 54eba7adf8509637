use Rattle.rx_spec.proofs.Prelude.{◌≡◌, ℕ, ◌<◌, length, get_or, slice_index}
use Rattle.rx_spec.specs.declared.Start.{Start}
use Rattle.rx_image_parts.specs.StartTables.{context_of}
use Rattle.rx_image_parts.proofs.start_table.contexts_of.Given as goal

abbrev pub invariant-loop-byte : goal.invariant-loop-byte
invariant-loop-byte l = record {
  len : length l.contexts ≡ 256;
  each : (k : ℕ) → k < l.byte → get_or l.contexts k Start.NonWordByte ≡ context_of (slice_index l.numbers k);
}
