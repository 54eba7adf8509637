use Rattle.rx_spec.proofs.Prelude.{◌≡◌, ◌<◌, ℕ, length, get_or, start_of_byte}
use Rattle.rx_spec.specs.declared.Start.{Start}
use Rattle.rx_dense.proofs.dfa.build.contexts.Given as goal

abbrev pub invariant-loop-byte : goal.invariant-loop-byte
invariant-loop-byte l =
    (length l.contexts ≡ 256) × (l.map ≡ l.fn.lookm)
    × ((k : ℕ) → k < l.byte → get_or l.contexts k Start.NonWordByte ≡ start_of_byte l.fn.lookm k)
