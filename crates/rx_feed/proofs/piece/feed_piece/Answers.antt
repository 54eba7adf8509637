use Rattle.rx_spec.proofs.Prelude.{common_steps, ◌<◌, Some, length, drop, refl, ap, sym, ◌∙◌, subst, arith, Appends}
use Rattle.rx_search.proofs.Cursors.{at_same}
use Rattle.rx_search.proofs.Walks.{bytes_of}
use Rattle.rx_stream.specs.Calls.{IsFed}
use Rattle.rx_stream.specs.Remaining.{now}
use Rattle.rx_feed.specs.Lines.{IsMatch}
use Rattle.rx_transfer.specs.Outside.{AppendsFront}
use Rattle.rx_feed.proofs.Pieces.{fed_smaller, feeds_broken, feeds_more, feeds_none, feeds_over, feeds_quit}
use Rattle.rx_feed.proofs.piece.feed_piece.Given as given
use Rattle.rx_feed.proofs.piece.feed_piece.Goals.{After-feed-used}
use Rattle.rx_feed.proofs.piece.feed_piece.Goals as goal

pub events-init : goal.events-init
events-init g c = grind (arith, common_steps, bytes_of, feeds_none)

-- the call, of the table that the searcher had at first
fed : (g : given.Over) (c : After-feed-used g)
    → IsFed (g.A.Automaton.table c.args.searcher.now.table) (g.A.Automaton.ids c.args.searcher.now.table)
    c.events.searcher.place c.feed-used.new.self.place c.args.piece.now c.events.from c.feed-used.result
fed g c = grind (arith, common_steps, at_same)

pub returns-in_default-clause-fed : goal.returns-in_default-clause-fed
returns-in_default-clause-fed g c =
    let is = fed g (goal.at.returns-in_default-clause-fed g c).After-feed-used in
    feeds_over c.events.invariant.feeds is c.in_default.is

pub returns-in-Quit-clause-fed : goal.returns-in-Quit-clause-fed
returns-in-Quit-clause-fed g c =
    let is = fed g (goal.at.returns-in-Quit-clause-fed g c).After-feed-used in
    feeds_quit c.events.invariant.feeds is (c.in-Some.is ∙ ap Some c.in-Quit.is)

pub returns-then-not-write_text-clause-fed : goal.returns-then-not-write_text-clause-fed
returns-then-not-write_text-clause-fed g c =
    let is = fed g (goal.at.returns-then-not-write_text-clause-fed g c).After-feed-used in
    let line = c.as_slice.ensures ∙ c.event_line.ensures in
    feeds_broken c.events.invariant.feeds is c.in-Some.is (subst IsMatch (sym c.in_default-event.is) tt)
    (subst (AppendsFront (g.K.Sink.written c.events.out) (g.K.Sink.written c.write_text.new.out)) line
    (c.if-not-write_text.ensures.part refl))

pub events-smaller : goal.events-smaller
events-smaller g c =
    let a = g.A.Automaton in
    let here = c.events.searcher in
    let next = c.feed-used.new.self in
    subst (λ x. length (now (a.table x) (a.ids x) next.place (drop c.feed-used.result.used c.args.piece.now))
    < length (now (a.table here.table) (a.ids here.table) here.place (drop c.events.from c.args.piece.now)))
    (sym c.feed-used.ensures.table) (fed_smaller c.feed-used.ensures.fed c.in-Some.is)

pub events-preserved : goal.events-preserved
events-preserved g c =
    let is = fed g (goal.at.events-preserved g c).After-feed-used in
    let line = c.as_slice.ensures ∙ c.event_line.ensures in
    record {
      table = c.feed-used.ensures.table ∙ c.events.invariant.table;
      bytes = c.events.invariant.bytes;
      feeds =
          feeds_more c.events.invariant.feeds is c.in-Some.is (subst IsMatch (sym c.in_default-event.is) tt)
          (subst (Appends (g.K.Sink.written c.events.out) (g.K.Sink.written c.write_text.new.out)) line
          (c.if-not-write_text.ensures.whole refl));
      counted = omega (arith, c.events.invariant.counted, c.write_text.ensures.counted);
    }
