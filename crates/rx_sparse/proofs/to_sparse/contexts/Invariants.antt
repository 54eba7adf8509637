use Rattle.rx_spec.proofs.Prelude.{◌≡◌, ℕ, ◌<◌, length, get_or}
use Rattle.rx_spec.specs.declared.Start.{Start}
use Rattle.rx_sparse.proofs.to_sparse.contexts.Given as goal

abbrev pub invariant-loop-byte : goal.invariant-loop-byte
invariant-loop-byte g l = record {
  len : length l.contexts ≡ 256;
  each : (k : ℕ) → k < l.byte
      → get_or l.contexts k Start.NonWordByte ≡ get_or l.dfa.contexts k Start.NonWordByte;
}
