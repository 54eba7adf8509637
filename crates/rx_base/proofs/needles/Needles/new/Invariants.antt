use Rattle.rx_spec.proofs.Prelude.{◌≡◌, take}
use Rattle.rx_base.specs.Needles.{padded}
use Rattle.rx_base.proofs.needles.Needles.new.Given as goal

-- so far the first bytes are kept, and zeros stand after them
abbrev pub invariant-loop-i : goal.invariant-loop-i
invariant-loop-i l = l.kept ≡ padded (take l.i l.bytes)
