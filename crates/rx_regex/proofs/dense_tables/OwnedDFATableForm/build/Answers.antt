use Rattle.rx_spec.proofs.Prelude.{common_steps, arith, rules, err_from_is_err_and}
use Rattle.rx_dense.specs.Layouts.{IsShaped}
use Rattle.rx_plan.specs.Plan.{plan_of}
use Rattle.rx_regex.proofs.Refusals.{table_fits, table_refused}
use Rattle.rx_regex.proofs.Whole.{dense_whole, is_dense}
use Rattle.rx_regex.proofs.dense_tables.OwnedDFATableForm.build.Goals as goal

pub returns-clause-ok : goal.returns-clause-ok
returns-clause-ok c =
    let p = plan_of c.args.plan.now in
    let es = c.args.exprs.now in
    let built = is_dense p c.args.which es c.table_builder.ensures c.direction.ensures c.in_ok-table.ensures.ok in
    let shaped : IsShaped c.in_ok-table.table = search rules in
    record {
      form = c.requires;
      safe = c.in_ok-table.ensures.safe;
      built = built;
      whole = dense_whole p c.args.which es c.in_ok-table.table (omega arith) shaped built;
    }

pub returns-clause-fits : goal.returns-clause-fits
returns-clause-fits c = grind (arith, common_steps, table_fits)

pub returns-in_err-table-clause-err : goal.returns-in_err-table-clause-err
returns-in_err-table-clause-err c = grind (arith, common_steps, err_from_is_err_and, table_refused)
