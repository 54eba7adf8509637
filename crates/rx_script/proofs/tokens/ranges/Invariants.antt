use Rattle.rx_spec.proofs.Prelude.{◌≡◌, option_map}
use Rattle.rx_script.specs.Pieces.{pieces_left, bytes_left}
use Rattle.rx_script.specs.Tokens.{ranges_from}
use Rattle.rx_script.proofs.tokens.ranges.Given as goal

abbrev pub invariant-pieces : goal.invariant-pieces
invariant-pieces l =
    ranges_from l.set (pieces_left 44 (option_map (λ t. t.now) l.rest))
    ≡ ranges_from 0 (pieces_left 44 (option_map (λ t. t.now) l.initial.rest))

abbrev pub decreases-pieces : goal.decreases-pieces
decreases-pieces l = bytes_left (option_map (λ t. t.now) l.rest)
