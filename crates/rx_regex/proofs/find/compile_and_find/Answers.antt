use Rattle.rx_spec.proofs.Prelude.{sym}
use Rattle.rx_base.specs.Input.{query_of}
use Rattle.rx_plan.specs.Plan.{plan_of}
use Rattle.rx_regex.proofs.Faults.{answers_fault}
use Rattle.rx_regex.proofs.find.compile_and_find.Goals as goal

pub returns-in-Ok-search-clause-answers : goal.returns-in-Ok-search-clause-answers
returns-in-Ok-search-clause-answers k =
    let p = plan_of k.args.plan.now in
    let es = k.args.exprs.now in
    let tables = k.in-Ok.ensures.ok in
    record {
      fits = k.in-Ok.ensures.fits;
      found = sym (k.in-Ok-search.ensures.answer p es tables);
      rows = k.rows-forward_rows.ensures p es tables;
    }

pub returns-clause-answers : goal.returns-clause-answers
returns-clause-answers k =
    let p = plan_of k.args.plan.now in
    let es = k.args.exprs.now in
    answers_fault p es (query_of k.args.input.now) k.search_fault.result k.in-Err-search.error k.in-Ok.ensures.fits
    (sym (k.in-Err-search.ensures.answer p es k.in-Ok.ensures.ok)) k.search_fault.ensures
