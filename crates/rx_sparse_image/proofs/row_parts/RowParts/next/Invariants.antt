use Rattle.rx_spec.proofs.Prelude.{◌≡◌, ◌-◌, ◌/◌, length, map, range_with_len}
use Rattle.rx_sparse.specs.Rows.{next_among, range_in}
use Rattle.rx_sparse.proofs.DecodedRows.{ranges_from}
use Rattle.rx_sparse_image.proofs.row_parts.RowParts.next.Given as goal

abbrev pub invariant-loop-i : goal.invariant-loop-i
invariant-loop-i l =
    let ends = l.self.ends.now in
    let ids = l.self.next_ids.now in
    next_among (map (range_in l.order ends ids) (range_with_len 0 (length ends / 2 - 1))) l.class
    ≡ next_among (ranges_from l.order ends ids (length ends / 2 - 1) l.i) l.class
