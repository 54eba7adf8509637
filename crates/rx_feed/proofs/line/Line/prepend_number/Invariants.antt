use Rattle.rx_spec.proofs.Prelude.{◌≡◌, ◌+◌, ◌≤◌, ◌++◌, length, decimal}
use Rattle.rx_feed.proofs.line.Line.prepend_number.Given as goal

abbrev pub invariant-digits : goal.invariant-digits
invariant-digits l = record {
  bytes : decimal l.rest ++ l.self ≡ decimal l.number ++ l.initial.self;
  len : length (decimal l.rest) + length l.self ≤ 20 + length l.initial.self;
}

abbrev pub decreases-digits : goal.decreases-digits
decreases-digits l = l.rest
