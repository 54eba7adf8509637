use Rattle.rx_spec.proofs.Prelude.{◌≡◌, ◌+◌, drop, prefix_len}
use Rattle.rx_wire.specs.Heads.{is_text}
use Rattle.rx_wire.proofs.label.text_len.Given as goal

abbrev pub invariant-loop-i : goal.invariant-loop-i
invariant-loop-i l = prefix_len is_text l.bytes ≡ l.i + prefix_len is_text (drop l.i l.bytes)
