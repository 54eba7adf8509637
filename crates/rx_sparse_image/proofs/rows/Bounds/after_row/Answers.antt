use Rattle.rx_spec.proofs.Prelude.{rules, AreBytes}
use Rattle.rx_sparse.specs.Rows.{row_in}
use Rattle.rx_sparse_image.specs.Walks.{row_at}
use Rattle.rx_sparse_image.proofs.DecodedBytes.{are_bytes}
use Rattle.rx_sparse_image.proofs.TestedRows.{passed_row}
use Rattle.rx_sparse_image.proofs.rows.Bounds.after_row.Goals as goal

pub returns-clause-rest : goal.returns-clause-rest
unfolding row_at
returns-clause-rest c =
    let b = c.args.self.now in
    let bytes = c.args.bytes.now in
    let are : AreBytes bytes = are_bytes bytes c.type_inv.bytes in
    (passed_row b c.args.at bytes (row_in b.order bytes) c.in_ok-rest-3.rest.now are (search rules)).behind
