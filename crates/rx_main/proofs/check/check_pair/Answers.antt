use Rattle.rx_spec.proofs.Prelude.{arith, ap, sym, ◌∙◌, common_steps, IfOk-weaker}
use Rattle.rx_main.specs.Check.{pair_rows_reply, reading_reply}
use Rattle.rx_main.proofs.CheckAnswers.{failed_test_answers}
use Rattle.rx_main.proofs.check.check_pair.Goals as goal

pub returns-in-Ok : goal.returns-in-Ok
returns-in-Ok c =
    IfOk-weaker c.accepted_pair_reply.result _ _
    (λ reply told. told ∙ sym (ap (reading_reply pair_rows_reply) c.in-Ok.ensures.read))
    c.accepted_pair_reply.ensures

pub returns-in-Err : goal.returns-in-Err
returns-in-Err c = grind (arith, common_steps, failed_test_answers)
