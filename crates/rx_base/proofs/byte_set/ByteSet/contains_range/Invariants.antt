use Rattle.rx_spec.proofs.Prelude.{◌≡◌, ℕ, ◌<◌, ◌≤◌, true, contains}
use Rattle.rx_base.proofs.byte_set.ByteSet.contains_range.Given as goal

abbrev pub invariant-loop-byte : goal.invariant-loop-byte
invariant-loop-byte l = (c : ℕ) → l.start ≤ c → c < l.byte → contains l.self c ≡ true
