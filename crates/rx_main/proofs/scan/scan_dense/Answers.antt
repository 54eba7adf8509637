use Rattle.rx_spec.proofs.Prelude.{arith, ap, sym, ◌∙◌, common_steps, IfOk-weaker}
use Rattle.rx_dense.specs.Layouts as dense
use Rattle.rx_main.specs.Check.{reading_reply}
use Rattle.rx_main.specs.Scan.{dense_scan_reply, scanned_reply}
use Rattle.rx_main.proofs.CheckAnswers.{failed_test_answers}
use Rattle.rx_main.proofs.scan.scan_dense.Goals as goal

pub returns-in-Ok : goal.returns-in-Ok
returns-in-Ok c =
    IfOk-weaker c.scanned_reply.result _ _
    (λ reply told.
    told ∙ ap (scanned_reply (dense.table_of c.in-Ok.table)) c.behind.ensures
    ∙ sym (ap (reading_reply (dense_scan_reply c.args.bytes.now)) c.in-Ok.ensures.read))
    c.scanned_reply.ensures

pub returns-in-Err : goal.returns-in-Err
returns-in-Err c = grind (arith, common_steps, failed_test_answers)
