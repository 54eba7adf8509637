use Rattle.rx_spec.proofs.Prelude.{common_steps, arith, IfOk-weaker, on_ok_weaker}
use Rattle.rx_plan.specs.Plan.{plan_of}
use Rattle.rx_regex.proofs.Refusals.{sparse_table_fits, sparse_table_refused}
use Rattle.rx_regex.proofs.Whole.{is_sparse, sparse_whole}
use Rattle.rx_regex.proofs.sparse_tables.DFAVecU8TableForm.build.Goals as goal

pub returns-clause-ok : goal.returns-clause-ok
returns-clause-ok c =
    let p = plan_of c.args.plan.now in
    let es = c.args.exprs.now in
    IfOk-weaker c.build_one_sparse.result _ _
    (λ t is.
    let built = is_sparse p c.args.which es c.table_builder.ensures c.direction.ensures is in
    record {
      form = c.requires;
      safe = c.build_one_sparse.ensures.safe;
      built = built;
      whole = sparse_whole p c.args.which es t (omega arith) built;
    })
    c.build_one_sparse.ensures.ok

pub returns-clause-fits : goal.returns-clause-fits
returns-clause-fits c = grind (arith, common_steps, on_ok_weaker, sparse_table_fits)

pub returns-clause-err : goal.returns-clause-err
returns-clause-err c = grind (arith, common_steps, sparse_table_refused)
