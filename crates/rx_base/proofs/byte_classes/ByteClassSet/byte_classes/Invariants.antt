use Rattle.rx_spec.proofs.Prelude.{◌≡◌, ℕ, ◌≤◌, length, get_or, contains, class_by}
use Rattle.rx_base.proofs.byte_classes.ByteClassSet.byte_classes.Given as goal

-- the bytes up to this one have their classes
abbrev pub invariant-loop-byte : goal.invariant-loop-byte
invariant-loop-byte l =
    let ends = contains l.self-inside.ends in
    (length l.classes ≡ 256) × (l.class ≡ class_by ends l.byte)
    × ((b : ℕ) → b ≤ l.byte → get_or l.classes b 0 ≡ class_by ends b)
