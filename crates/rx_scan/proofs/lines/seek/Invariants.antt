use Rattle.rx_spec.proofs.Prelude.{◌≤◌, ◌-◌}
use Rattle.rx_scan.specs.Lines.{AreLines}
use Rattle.rx_scan.proofs.lines.seek.Given as goal

abbrev pub invariant-feeds : goal.invariant-feeds
invariant-feeds l = record {
  lines : AreLines l.text l.lines;
  begun : l.lines.start ≤ l.to;
  ahead : l.lines.known ≤ l.end;
}

abbrev pub decreases-feeds : goal.decreases-feeds
decreases-feeds l = l.end - l.lines.known
