use Rattle.rx_spec.proofs.Prelude.{arith, ◌∙◌, [], Err, ap, subst, common_steps, IfOk-weaker, MatchError}
use Rattle.rx_base.specs.Input.{query_of}
use Rattle.rx_base.specs.Search.{mode_of}
use Rattle.rx_plan.specs.Plan.{plan_of}
use Rattle.rx_regex.specs.Find.{Answers}
use Rattle.rx_script.specs.Script.{script_read}
use Rattle.rx_main.specs.Lines.{error_reply}
use Rattle.rx_main.proofs.Refusals.{kind_told}
use Rattle.rx_main.proofs.FindAnswers.{failed_answers, found_answers}
use Rattle.rx_main.proofs.find.solve.Goals as goal

pub returns-in-Ok : goal.returns-in-Ok
returns-in-Ok c =
    let script = script_read c.args.script.now in
    let is = rw c.as_slice.ensures at c.in-Ok.ensures.answers in
    IfOk-weaker c.found_reply.result _ _
    (λ reply e. record {
      query = query_of c.asked-input.result;
      asked = c.asked-input.ensures.query;
      replies = found_answers script (query_of c.asked-input.result) reply c.in-Ok.answer is e;
    })
    c.found_reply.ensures

pub returns-in-Err-Quit : goal.returns-in-Err-Quit
returns-in-Err-Quit c =
    let script = script_read c.args.script.now in
    let error = MatchError.Quit c.in-Err-Quit.byte c.in-Err-Quit.offset in
    let given = subst
    (λ fault. Answers (plan_of script.plan) c.as_slice.result.now (query_of c.asked-input.result) (Err fault))
    c.in-Err-Quit.field-0-is c.in-Err-Quit.ensures.answers in
    let is = rw c.as_slice.ensures at given in
    IfOk-weaker c.error_reply.result _ _
    (λ reply e. record {
      query = query_of c.asked-input.result;
      asked = c.asked-input.ensures.query;
      replies = failed_answers script (query_of c.asked-input.result) reply error is
          (e ∙ ap (λ lines. error_reply lines c.quit.result) c.new.ensures.bytes ∙ ap (error_reply []) c.quit.ensures);
    })
    c.error_reply.ensures

pub returns-in-Err-Unsupported : goal.returns-in-Err-Unsupported
returns-in-Err-Unsupported c =
    let script = script_read c.args.script.now in
    let error = MatchError.UnsupportedAnchored (mode_of c.in-Err-Unsupported.mode) in
    let given = subst
    (λ fault. Answers (plan_of script.plan) c.as_slice.result.now (query_of c.asked-input.result) (Err fault))
    c.in-Err-Unsupported.field-0-is c.in-Err-Unsupported.ensures.answers in
    let is = rw c.as_slice.ensures at given in
    IfOk-weaker c.error_reply-in-Err-Unsupported.result _ _
    (λ reply e. record {
      query = query_of c.asked-input.result;
      asked = c.asked-input.ensures.query;
      replies = failed_answers script (query_of c.asked-input.result) reply error is
          (e ∙ ap (λ lines. error_reply lines c.unsupported_anchored.result) c.new-in-Err-Unsupported.ensures.bytes
          ∙ ap (error_reply []) c.unsupported_anchored.ensures);
    })
    c.error_reply-in-Err-Unsupported.ensures

pub returns-in-Err-Build : goal.returns-in-Err-Build
returns-in-Err-Build c = grind (arith, common_steps, kind_told)
