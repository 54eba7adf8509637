use Rattle.rx_spec.proofs.Prelude.{◌-◌, ◌≤◌, length, take, Appends}
use Rattle.rx_transfer.proofs.write_text.Given as goal

abbrev pub invariant-writes : goal.invariant-writes
invariant-writes g l = record {
  within : l.at ≤ length l.text;
  bytes : Appends (g.K.Sink.written l.initial.out) (g.K.Sink.written l.out) (take l.at l.text);
  counted : g.K.Sink.faults l.initial.out ≤ g.K.Sink.faults l.out;
}

abbrev pub decreases-writes : goal.decreases-writes
decreases-writes g l = length l.text - l.at
