use Rattle.rx_spec.proofs.Prelude.{Ok, ap, refl, subst, sym}
use Rattle.rx_transfer.proofs.Transfers.{consumes_more}
use Rattle.rx_main.specs.Replies.{ReadReplies}
use Rattle.rx_main.proofs.TakenReplies.{took_all}
use Rattle.rx_main.proofs.program.whole_reply.Goals as goal

pub returns-in-Some-clause-took : goal.returns-in-Some-clause-took
returns-in-Some-clause-took g c = λ words says.
    let told = rw c.in-Some.is at c.in_ok-reply.ensures.replied in
    let end = rw c.in-Some.is at c.in_ok-reply.ensures.end in
    took_all (g.S.Source.left c.args.src.now) (g.S.Source.left c.seek_reply.new.src) told.0 c.in-Some.reply says told.1
    end (record { whole = refl; few = told.2 }, told.3)

pub returns-clause-took : goal.returns-clause-took
returns-clause-took g c = λ words says.
    let rest = c.in_ok-read_rest.ensures.bytes in
    let first = c.in_ok-reply.ensures.read (ap Ok c.in_default.is) in
    let whole = consumes_more (g.S.Source.left c.args.src.now) (g.S.Source.left c.seek_reply.new.src)
    (g.S.Source.left c.read_rest.new.src) c.seek_reply.new.text.items rest.0 first rest.2 in
    took_all (g.S.Source.left c.args.src.now) (g.S.Source.left c.read_rest.new.src) c.read_rest.new.text.items
    c.in_ok-read_reply.field-0 says (rw (sym rest.1) at whole)
    c.in_ok-read_rest.ensures.end (
      record { whole = refl; few = c.in_ok-read_rest.ensures.few },
      subst (λ bytes. ReadReplies c.args.command bytes c.in_ok-read_reply.field-0) c.deref.ensures.value
          c.in_ok-read_reply.ensures,
    )
