use Rattle.rx_spec.proofs.Prelude.{◌≡◌, ◌++◌, ◌-◌, ◌≤◌, ℕ, List, length, Consumes}
use Rattle.std.proofs.Common.{vec_len}
use Rattle.rx_transfer.proofs.reading.read_up_to.Given as goal

abbrev pub invariant-reads : goal.invariant-reads
invariant-reads g l = record {
  few : length l.text.items ≤ l.most;
  bytes : (read : List ℕ) × (l.text.items ≡ l.initial.text.items ++ read)
      × Consumes (g.S.Source.left l.initial.src) (g.S.Source.left l.src) read;
  counted : g.S.Source.faults l.initial.src ≤ g.S.Source.faults l.src;
  buffer : length l.buffer ≡ length l.initial.buffer;
}

abbrev pub decreases-reads : goal.decreases-reads
decreases-reads g l = l.most - vec_len l.text
