use Rattle.rx_spec.proofs.Prelude.{common_steps, ◌-◌, ◌<◌, false, length, subst, ap, ◌∙◌, arith, rules}
use Rattle.rx_spec.proofs.Prelude.{length-replicate, err_from_is_err_and, All-drop, AreBytes, get_or-set_same, or_right}
use Rattle.rx_spec.proofs.Prelude.{list_any-append, eq-eqb}
use Rattle.std.proofs.lemmas.List.{length-set}
use Rattle.rx_sparse.specs.Rows.{rows_in, rows_len}
use Rattle.rx_sparse_image.specs.Walks.{rows_at}
use Rattle.rx_sparse_image.proofs.DecodedBytes.{are_bytes}
use Rattle.rx_sparse_image.proofs.PassedRows.{marks_none, none_passed, offsets_are, none_left, size, rest_is, fails_by}
use Rattle.rx_sparse_image.proofs.PassedRows.{row_fails, row_passed}
use Rattle.rx_sparse_image.proofs.rows.walk.Goals as goal
use Rattle.rx_sparse.proofs.RowPlaces.{length-rows_in}

pub rows-init : goal.rows-init
rows-init c = record {
  passed = none_passed c.args.bounds.now c.args.bytes.now;
  size = ap length c.in_ok-rows.ensures ∙ length-replicate (length c.args.bytes.now) false;
  marks =
      marks_none c.args.bounds.now.order c.args.bytes.now c.in_ok-rows.rows.begins.items (length c.args.bytes.now)
      c.in_ok-rows.ensures;
}

pub returns-in_err-rest-clause-read : goal.returns-in_err-rest-clause-read
returns-in_err-rest-clause-read c =
    let rest = c.rows.rest.now in
    let p = err_from_is_err_and c.from_residual-in_err-rest.result c.from_residual-in_err-rest.ensures.1 in
    rw (p.1, p.2)
    (fails_by c.in_err-rest.field-0.0 (rows_at c.args.bounds.now c.args.bytes.now)
    (row_fails c.rows.invariant.passed c.requires (search rules) c.in_err-rest.ensures.read))

pub rows-preserved : goal.rows-preserved
rows-preserved c =
    let bytes = c.args.bytes.now in
    let rest = c.rows.rest.now in
    let are = c.rows.invariant.passed in
    let rows = rows_in c.args.bounds.now.order c.rows.count bytes in
    let bytes_rest : AreBytes rest =
    subst AreBytes (rest_is are c.requires)
    (All-drop (λ x. x < 256) (rows_len rows) bytes (are_bytes bytes c.type_inv.bytes)) in
    let size = c.rows.invariant.size in
    record {
      passed = row_passed are c.requires (search rules) bytes_rest c.in_ok-rest.ensures.read;
      size = ap length c.insert.ensures ∙ simp length-set size;
      marks = λ k.
          rw (c.insert.ensures, offsets_are are c.requires (search rules) bytes_rest c.in_ok-rest.ensures.read)
          (grind (arith, common_steps, get_or-set_same, list_any-append, or_right, eq-eqb, length bytes - length rest));
    }

pub returns-clause-read : goal.returns-clause-read
returns-clause-read c = grind (arith, common_steps, none_left)

pub returns-clause-whole : goal.returns-clause-whole
returns-clause-whole c = grind (arith, common_steps)

pub returns-clause-tested : goal.returns-clause-tested
returns-clause-tested c = grind (arith, common_steps, length-rows_in, size)
