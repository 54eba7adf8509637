use Rattle.rx_sparse.proofs.ReadRanges.{AreRead}
use Rattle.rx_sparse.proofs.ranges.read_ranges.Given as goal

abbrev pub invariant-loop-first : goal.invariant-loop-first
invariant-loop-first l = AreRead l.row.next_ids l.ranges.items l.eoi l.first-iterator
