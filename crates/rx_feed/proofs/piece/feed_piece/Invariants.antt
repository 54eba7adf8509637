use Rattle.rx_spec.proofs.Prelude.{◌≡◌, ◌≤◌, length, drop, AreBytes}
use Rattle.rx_stream.specs.Remaining.{now}
use Rattle.rx_feed.proofs.Pieces.{Feeds}
use Rattle.rx_feed.proofs.piece.feed_piece.Given as goal

abbrev pub invariant-events : goal.invariant-events
invariant-events g l = record {
  table : l.searcher.table ≡ l.initial.searcher.table;
  bytes : AreBytes l.piece;
  feeds : Feeds (g.A.Automaton.table l.initial.searcher.table) (g.A.Automaton.ids l.initial.searcher.table)
      l.initial.searcher.place l.searcher.place l.piece l.from
      (record { before = g.K.Sink.written l.initial.out; after = g.K.Sink.written l.out });
  counted : g.K.Sink.faults l.initial.out ≤ g.K.Sink.faults l.out;
}

abbrev pub decreases-events : goal.decreases-events
decreases-events g l =
    length (now (g.A.Automaton.table l.searcher.table) (g.A.Automaton.ids l.searcher.table) l.searcher.place
    (drop l.from l.piece))
