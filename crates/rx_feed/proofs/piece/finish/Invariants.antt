use Rattle.rx_spec.proofs.Prelude.{◌≡◌, ◌≤◌, [], length}
use Rattle.rx_stream.specs.Remaining.{remaining}
use Rattle.rx_feed.proofs.Pieces.{Finishes}
use Rattle.rx_feed.proofs.piece.finish.Given as goal

abbrev pub invariant-events : goal.invariant-events
invariant-events g l = record {
  table : l.searcher.table ≡ l.initial.searcher.table;
  finishes : Finishes (g.A.Automaton.table l.initial.searcher.table) (g.A.Automaton.ids l.initial.searcher.table)
      l.initial.searcher.place l.searcher.place
      (record { before = g.K.Sink.written l.initial.out; after = g.K.Sink.written l.out });
  counted : g.K.Sink.faults l.initial.out ≤ g.K.Sink.faults l.out;
}

abbrev pub decreases-events : goal.decreases-events
decreases-events g l =
    length (remaining (g.A.Automaton.table l.searcher.table) (g.A.Automaton.ids l.searcher.table) l.searcher.place [])
