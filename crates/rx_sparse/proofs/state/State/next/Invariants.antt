use Rattle.rx_spec.proofs.Prelude.{◌≡◌}
use Rattle.rx_sparse.specs.Rows.{next_among}
use Rattle.rx_sparse.proofs.DecodedRows.{ranges_from}
use Rattle.rx_sparse.proofs.state.State.next.Given as goal

abbrev pub invariant-loop-i : goal.invariant-loop-i
invariant-loop-i l =
    let s = l.self-inside in
    next_among l.self.ranges l.class
    ≡ next_among (ranges_from s.order s.ends.now s.next_ids.now l.count l.i) l.class
