use Rattle.rx_spec.proofs.Prelude.{arith, common_steps, IfOk-weaker}
use Rattle.rx_main.proofs.SearchAnswers.{refused_reply, searched_reply}
use Rattle.rx_main.proofs.search.search.Goals as goal

pub returns-in-Ok : goal.returns-in-Ok
returns-in-Ok c =
    IfOk-weaker c.pair_reply.result _ _
    (λ reply told.
    searched_reply c.args.search.now c.args.bytes.now reply c.parts.ensures.image c.parts.ensures.behind
    c.in-Ok.ensures.read told)
    c.pair_reply.ensures

pub returns-in-Err : goal.returns-in-Err
returns-in-Err c = grind (arith, common_steps, refused_reply)
