use Rattle.rx_spec.proofs.Prelude.{◌≡◌, ◌-◌, ◌^◌, bit_or}
use Rattle.rx_script.proofs.tokens.add_range.Given as goal

abbrev pub invariant-loop-byte : goal.invariant-loop-byte
invariant-loop-byte l = l.set ≡ bit_or l.initial.set (2 ^ l.byte - 2 ^ l.first)
