use Rattle.rx_spec.proofs.Prelude.{◌≡◌, true, drop}
use Rattle.rx_script.specs.Pieces.{is_spaced}
use Rattle.rx_script.proofs.pieces.is_spaced.Given as goal

abbrev pub invariant-bytes : goal.invariant-bytes
invariant-bytes l = is_spaced l.gap (drop l.byte-index l.line) ≡ is_spaced true l.line
