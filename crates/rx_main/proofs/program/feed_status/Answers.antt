use Rattle.rx_spec.proofs.Prelude.{◌≡◌, Err, subst}
use Rattle.rx_base.specs.Search.{mode_of}
use Rattle.rx_transfer.specs.Outside.{Ends}
use Rattle.rx_feed.specs.Run.{FeedEnds}
use Rattle.rx_feed.specs.declared.fault.Fault.{Fault}
use Rattle.rx_main.proofs.program.feed_status.Goals as goal

pub returns-in-Err-Source-clause-source : goal.returns-in-Err-Source-clause-source
returns-in-Err-Source-clause-source g c = λ e.
    let told : c.feed.result ≡ Err Fault.Source = cc (c.in-Err-Source.is, c.in-Err-Source.field-0-is) in
    let ends : Ends = record {
      left_before = g.S.Source.left c.args.src.now;
      left_after = g.S.Source.left c.feed.new.src;
      written_before = g.K.Sink.written c.args.out.now;
      written_after = g.K.Sink.written c.feed.new.out;
    } in (
      c.feed.ensures.cut told,
      subst (FeedEnds c.args.asked.form (mode_of c.args.asked.mode) c.args.asked.image_len ends) told
          c.feed.ensures.ends,
    )

pub returns-in-Err-Sink-clause-sink : goal.returns-in-Err-Sink-clause-sink
returns-in-Err-Sink-clause-sink g c = λ e.
    let told : c.feed.result ≡ Err Fault.Sink = cc (c.in-Err-Sink.is, c.in-Err-Sink.field-0-is) in
    let ends : Ends = record {
      left_before = g.S.Source.left c.args.src.now;
      left_after = g.S.Source.left c.feed.new.src;
      written_before = g.K.Sink.written c.args.out.now;
      written_after = g.K.Sink.written c.feed.new.out;
    } in (
      c.feed.ensures.failed told,
      subst (FeedEnds c.args.asked.form (mode_of c.args.asked.mode) c.args.asked.image_len ends) told
          c.feed.ensures.ends,
    )
