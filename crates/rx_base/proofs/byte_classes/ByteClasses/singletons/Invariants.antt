use Rattle.rx_spec.proofs.Prelude.{◌≡◌, ℕ, ◌<◌, length, get_or}
use Rattle.rx_base.proofs.byte_classes.ByteClasses.singletons.Given as goal

abbrev pub invariant-loop-byte : goal.invariant-loop-byte
invariant-loop-byte l = (length l.classes ≡ 256) × ((b : ℕ) → b < l.byte → get_or l.classes b 0 ≡ b)
