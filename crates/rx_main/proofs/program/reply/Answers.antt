use Rattle.rx_spec.proofs.Prelude.{Err, ap, IfOk-weaker}
use Rattle.rx_main.proofs.TakenReplies.{took_long}
use Rattle.rx_main.proofs.program.reply.Goals as goal

pub returns-in-Err-clause-took : goal.returns-in-Err-clause-took
returns-in-Err-clause-took g c =
    IfOk-weaker c.unread_reply.result _ _
    (λ reply told words says.
    took_long (g.S.Source.left c.args.src.now) (g.S.Source.left c.whole_reply.new.src) reply says
    (c.in-Err.ensures.long (ap Err told.0)) told.1)
    c.unread_reply.ensures.told
