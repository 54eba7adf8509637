use Rattle.rx_spec.proofs.Prelude.{arith, common_steps, IfOk-weaker}
use Rattle.rx_base.specs.Input.{query_of}
use Rattle.rx_plan.specs.Plan.{plan_of}
use Rattle.rx_script.specs.Script.{script_read}
use Rattle.rx_main.specs.Scripts.{BuildReplies}
use Rattle.rx_main.proofs.Refusals.{kind_told}
use Rattle.rx_main.proofs.each.solve.Goals as goal

pub returns-in-Ok : goal.returns-in-Ok
returns-in-Ok c =
    let script = script_read c.args.script.now in
    let tables = rw c.as_slice.ensures at c.in-Ok.ensures.ok in
    let fits = rw c.as_slice.ensures at c.in-Ok.ensures.fits in
    IfOk-weaker c.matches_reply.result _ _
    (λ reply is. record {
      query = query_of c.asked-input.result;
      asked = c.asked-input.ensures.query;
      replies = BuildReplies.Answered fits (is (plan_of script.plan) script.exprs tables);
    })
    c.matches_reply.ensures

pub returns-in-Err : goal.returns-in-Err
returns-in-Err c = grind (arith, common_steps, kind_told)
