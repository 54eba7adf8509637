use Rattle.rx_spec.proofs.Prelude.{common_steps, subst, arith}
use Rattle.rx_base.specs.Search.{mode_of}
use Rattle.rx_feed.specs.Run.{FeedBreaks, FeedCut, FeedStarved}
use Rattle.rx_main.specs.Run.{Breaks, IsCut, IsOutput, IsStarved}
use Rattle.rx_main.proofs.FedReplies.{fed_answers, rose_from}
use Rattle.rx_main.proofs.program.run.Goals as goal

pub returns-in-Reply-clause-sink : goal.returns-in-Reply-clause-sink
returns-in-Reply-clause-sink g c = λ e.
    let output = subst (IsOutput c.args.words.now (g.S.Source.left c.args.src.now) (g.S.Source.left c.answer.new.src))
    c.in-Reply.is c.in-Ok.ensures.took in (
      c.write_reply.ensures.failed (omega (arith, e)),
      Breaks.InReply output.0 c.in-Reply.reply output.1 (c.write_reply.ensures.broken (omega (arith, e))).1,
    )

pub returns-in-Feed-clause-answers : goal.returns-in-Feed-clause-answers
returns-in-Feed-clause-answers g c = grind (arith, common_steps, fed_answers)

pub returns-in-Feed-clause-source : goal.returns-in-Feed-clause-source
returns-in-Feed-clause-source g c = λ e.
    let output = subst (IsOutput c.args.words.now (g.S.Source.left c.args.src.now) (g.S.Source.left c.answer.new.src))
    c.in-Feed.is c.in-Ok.ensures.took in
    let f = c.in-Feed.asked in
    let fed = c.feed_status.ensures.source e in (
      rose_from (g.S.Source.faults c.args.src.now) (g.S.Source.faults c.answer.new.src)
          (g.S.Source.faults c.feed_status.new.src) c.answer.ensures.counted fed.0,
      IsCut.Fed f output.0
          (subst (λ left. FeedCut f.form (mode_of f.mode) f.image_len (record {
            left_before = left;
            left_after = g.S.Source.left c.feed_status.new.src;
            written_before = g.K.Sink.written c.args.out.now;
            written_after = g.K.Sink.written c.feed_status.new.out;
          })) output.1 fed.1),
    )

pub returns-in-Feed-clause-sink : goal.returns-in-Feed-clause-sink
returns-in-Feed-clause-sink g c = λ e.
    let output = subst (IsOutput c.args.words.now (g.S.Source.left c.args.src.now) (g.S.Source.left c.answer.new.src))
    c.in-Feed.is c.in-Ok.ensures.took in
    let f = c.in-Feed.asked in
    let fed = c.feed_status.ensures.sink e in (
      fed.0,
      Breaks.Fed f output.0
          (subst (λ left. FeedBreaks f.form (mode_of f.mode) f.image_len (record {
            left_before = left;
            left_after = g.S.Source.left c.feed_status.new.src;
            written_before = g.K.Sink.written c.args.out.now;
            written_after = g.K.Sink.written c.feed_status.new.out;
          })) output.1 fed.1),
    )

pub returns-in-Feed-clause-memory : goal.returns-in-Feed-clause-memory
returns-in-Feed-clause-memory g c = λ e.
    let output = subst (IsOutput c.args.words.now (g.S.Source.left c.args.src.now) (g.S.Source.left c.answer.new.src))
    c.in-Feed.is c.in-Ok.ensures.took in
    let f = c.in-Feed.asked in
    IsStarved.Fed f output.0
    (subst (λ left. FeedStarved f.image_len (record {
      left_before = left;
      left_after = g.S.Source.left c.feed_status.new.src;
      written_before = g.K.Sink.written c.args.out.now;
      written_after = g.K.Sink.written c.feed_status.new.out;
    })) output.1 (c.feed_status.ensures.memory e))
