use Rattle.rx_spec.proofs.Prelude.{common_steps, ◌≡◌, Ok, ap, sym, subst, ◌∙◌, arith, below_more, err_from_is_err_and}
use Rattle.rx_sparse.specs.Rows.{word_at}
use Rattle.rx_sparse_image.specs.Walks.{tested_id}
use Rattle.rx_sparse_image.proofs.Passes.{next_ids_fail, next_ids_pass}
use Rattle.rx_sparse_image.proofs.rows.Bounds.split_next_ids.Goals as goal

pub each-preserved : goal.each-preserved
each-preserved c =
    let b = c.args.self.now in
    let ids = c.in_ok-ids.ids.now in
    below_more (λ k. tested_id b (word_at b.order ids k) ≡ Ok (word_at b.order ids k)) c.each.i c.each.invariant
    (subst (λ n. tested_id b n ≡ Ok n) c.word_at.ensures c.in_ok-test_id.ensures)

pub returns-in_err-test_id-clause-read : goal.returns-in_err-test_id-clause-read
returns-in_err-test_id-clause-read c =
    let p = err_from_is_err_and c.from_residual-in_err-test_id.result c.from_residual-in_err-test_id.ensures.1 in
    rw (p.1, p.2)
    (next_ids_fail c.args.self.now c.args.count c.args.bytes.now c.in_ok-ids.ids.now c.in_ok-ids.rest.now
    c.in_ok-ids.ensures.read c.each.i _ (omega arith) c.each.invariant
    (ap (tested_id c.args.self.now) (sym c.word_at.ensures) ∙ c.in_err-test_id.ensures))

pub returns-clause-read : goal.returns-clause-read
returns-clause-read c = grind (arith, common_steps, next_ids_pass)
