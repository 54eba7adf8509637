use Rattle.rx_spec.proofs.Prelude.{common_steps, Some, refl, ◌∙◌, subst, arith, Appends, [], append-nil}
use Rattle.rx_search.proofs.Cursors.{at_same}
use Rattle.rx_stream.specs.Calls.{IsFinished}
use Rattle.rx_feed.specs.Lines.{end_line}
use Rattle.rx_transfer.specs.Outside.{AppendsFront}
use Rattle.rx_feed.proofs.Pieces.{finishes_broken, finishes_more}
use Rattle.rx_feed.proofs.Fronts.{writes_after}
use Rattle.rx_feed.proofs.piece.finish.Goals as goal

pub returns-then-not-write_text-clause-written : goal.returns-then-not-write_text-clause-written
returns-then-not-write_text-clause-written g c =
    let a = g.A.Automaton in
    let is = at_same a.table a.ids (λ t i. IsFinished t i c.events.searcher.place c.finish.new.self.place
    (Some c.in-Some.event)) c.events.invariant.table c.in-Some.ensures.finished in
    let line = c.as_slice.ensures ∙ c.event_line.ensures in
    finishes_broken c.events.invariant.finishes (end_line c.args.count) is
    (subst (AppendsFront (g.K.Sink.written c.events.out) (g.K.Sink.written c.write_text.new.out)) line
    (c.if-not-write_text.ensures.part refl))

pub events-preserved : goal.events-preserved
events-preserved g c =
    let a = g.A.Automaton in
    let is = at_same a.table a.ids (λ t i. IsFinished t i c.events.searcher.place c.finish.new.self.place
    (Some c.in-Some.event)) c.events.invariant.table c.in-Some.ensures.finished in
    let line = c.as_slice.ensures ∙ c.event_line.ensures in
    record {
      table = c.finish.ensures.table ∙ c.events.invariant.table;
      finishes =
          finishes_more c.events.invariant.finishes is
          (subst (Appends (g.K.Sink.written c.events.out) (g.K.Sink.written c.write_text.new.out)) line
          (c.if-not-write_text.ensures.whole refl));
      counted = omega (arith, c.events.invariant.counted, c.write_text.ensures.counted);
    }

pub returns-clause-written : goal.returns-clause-written
returns-clause-written g c = grind (arith, common_steps, at_same, writes_after, append-nil)
