use Rattle.rx_spec.proofs.Prelude.{refl, subst, err_from_is_err_and}
use Rattle.rx_main.specs.Commands.{Says}
use Rattle.rx_main.specs.Replies.{Replies}
use Rattle.rx_main.specs.declared.command.Command.{Command}
use Rattle.rx_main.proofs.FedReplies.{gen_no_feed}
use Rattle.rx_main.proofs.TakenReplies.{took_nothing}
use Rattle.rx_main.proofs.program.answer.Goals as goal

pub returns-in_err-usage_reply-clause-other : goal.returns-in_err-usage_reply-clause-other
returns-in_err-usage_reply-clause-other g c =
    let p = err_from_is_err_and c.from_residual.result c.from_residual.ensures.1 in
    rw p.1 (λ f says. c.in_default.ensures (Command.Feed f) says)

pub returns-in_default-clause-took : goal.returns-in_default-clause-took
returns-in_default-clause-took g c = (
  λ f says. c.in_default.ensures (Command.Feed f) says,
  took_nothing (g.S.Source.left c.args.src.now)
      (Replies.Usage c.in_default.ensures refl c.in_ok-usage_reply.ensures),
)

pub returns-in_ok-generate-in-Gen-clause-took : goal.returns-in_ok-generate-in-Gen-clause-took
returns-in_ok-generate-in-Gen-clause-took g c =
    let says = subst (Says c.args.words.now) c.in-Gen.is c.in-Some.ensures in (
      gen_no_feed says,
      took_nothing (g.S.Source.left c.args.src.now)
          (Replies.Answered (Command.Gen c.in-Gen.count) says (refl, c.in_ok-generate-in-Gen.ensures)),
    )
