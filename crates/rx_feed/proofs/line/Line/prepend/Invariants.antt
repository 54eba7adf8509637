use Rattle.rx_spec.proofs.Prelude.{◌≡◌, ◌+◌, ◌≤◌, ◌++◌, length, drop}
use Rattle.rx_feed.proofs.line.Line.prepend.Given as goal

abbrev pub invariant-bytes : goal.invariant-bytes
invariant-bytes l = record {
  within : l.left ≤ length l.text;
  bytes : l.self ≡ drop l.left l.text ++ l.initial.self;
  len : length l.self + l.left ≡ length l.text + length l.initial.self;
}

abbrev pub decreases-bytes : goal.decreases-bytes
decreases-bytes l = l.left
