use Rattle.rx_spec.proofs.Prelude.{◌≡◌, ◌≤◌, ◌+◌, ◌-◌, length}
use Rattle.rx_prefilter.proofs.Seeking.{IsUnderWay}
use Rattle.rx_prefilter.proofs.seek.seek_through.Given as goal

abbrev pub invariant-pieces : goal.invariant-pieces
invariant-pieces g l = record {
  read : IsUnderWay (g.S.Source.left l.initial.src) (g.S.Source.left l.src)
      (record { literal = l.literal; start = l.span.start; end = l.span.end }) l.sought l.buffer l.kept;
  room : length l.buffer ≡ length l.literal + 65536;
  few : l.sought.len ≤ l.most + 1;
  counted : g.S.Source.faults l.initial.src ≤ g.S.Source.faults l.src;
}

abbrev pub decreases-pieces : goal.decreases-pieces
decreases-pieces g l = l.most + 1 - l.sought.len
