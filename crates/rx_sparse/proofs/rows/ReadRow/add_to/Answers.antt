use Rattle.rx_spec.proofs.Prelude.{◌++◌, List, ℕ, ap, ◌∙◌, w16}
use Rattle.rx_wire.specs.Fields.{field}
use Rattle.rx_wire.specs.declared.order.Order.TheVariants.{Little}
use Rattle.rx_sparse.specs.Reading.{offset_in, read_row}
use Rattle.rx_sparse.proofs.WrittenRows.{if_added, row-put}
use Rattle.rx_sparse.proofs.rows.ReadRow.add_to.Goals as goal

pub returns : goal.returns
returns c =
    let old : List ℕ = c.args.bytes.now.items in
    if_added c.extend_from_slice-2.result c.push.new.self.items c.as_slice.result.now
    c.extend_from_slice-2.ensures.items
    (λ last.
    row-put (offset_in c.args.offsets.now) Little (read_row c.args.self.now) old
    (c.in_ok-extend_from_slice.ensures.items ∙ ap (λ t. old ++ t) c.to_le_bytes.ensures
    ∙ ap (λ n. old ++ field Little w16 n) c.head_number.ensures)
    c.in_ok-add_ends.ensures c.in_ok-add_next_ids.ensures c.in_ok-add_patterns.ensures
    (rw c.len.ensures.value at c.in_ok-push.ensures.items)
    (last ∙ ap (λ t. c.push.new.self.items ++ t) c.as_slice.ensures))
