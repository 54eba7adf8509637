use Rattle.rx_spec.proofs.Prelude.{arith, ◌∙◌, subst, common_steps, [], ◌++◌}
use Rattle.rx_search.proofs.Cursors.{at_same}
use Rattle.rx_stream.specs.Remaining.{now, remaining}
use Rattle.rx_feed.specs.Lines.{end_line, lines}
use Rattle.rx_feed.specs.Outside.{Writes}
use Rattle.rx_feed.proofs.Streams.{new_tells_none, stream_empty, stream_unsupported}
use Rattle.rx_feed.proofs.stream.feed_stream.Goals as goal

pub returns-in-Err-clause-ends : goal.returns-in-Err-clause-ends
returns-in-Err-clause-ends g c =
    stream_unsupported c.args.over (g.S.Source.left c.args.src.now) (g.K.Sink.written c.args.out.now)
    (g.K.Sink.written c.write_reply.new.out) c.write_reply.result c.in-Err.ensures c.requires.end
    (subst (λ l. Writes (g.K.Sink.written c.args.out.now) (g.K.Sink.written c.write_reply.new.out) l 4
    c.write_reply.result) (c.as_slice.ensures ∙ c.unsupported_line-line.ensures) c.write_reply.ensures.written)

pub returns-then-over-clause-ends : goal.returns-then-over-clause-ends
returns-then-over-clause-ends g c =
    let a = g.A.Automaton in
    let place = c.in-Ok.searcher.place in
    let new = c.in-Ok.ensures.1 in
    let before = g.K.Sink.written c.args.out.now in
    let after = g.K.Sink.written c.finish.new.out in
    stream_empty c.args.over (g.S.Source.left c.args.src.now) before after c.finish.result new (new_tells_none new)
    (c.requires.end c.if-over.true)
    (at_same a.table a.ids (λ t i. Writes before after (lines (remaining t i place []) ++ end_line 0) 0 c.finish.result)
    c.in-Ok.ensures.0 c.finish.ensures.written)

pub feed_pieces-requires-clause-none : goal.feed_pieces-requires-clause-none
feed_pieces-requires-clause-none g c = grind (arith, common_steps, at_same, new_tells_none)
