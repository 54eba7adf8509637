use Rattle.rx_spec.proofs.Prelude.{arith, ap, sym, ◌∙◌, common_steps, IfOk-weaker}
use Rattle.rx_main.specs.Check.{dense_reply, reading_reply}
use Rattle.rx_main.proofs.CheckAnswers.{failed_test_answers}
use Rattle.rx_main.proofs.check.check_dense.Goals as goal

pub returns-in-Ok : goal.returns-in-Ok
returns-in-Ok c =
    IfOk-weaker c.accepted_reply.result _ _
    (λ reply told.
    rw (c.state_len.ensures.value, c.pattern_len.ensures.value) at told
    ∙ sym (ap (reading_reply dense_reply) c.in-Ok.ensures.read))
    c.accepted_reply.ensures

pub returns-in-Err : goal.returns-in-Err
returns-in-Err c = grind (arith, common_steps, failed_test_answers)
