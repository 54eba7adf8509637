use Rattle.rx_spec.proofs.Prelude.{◌≡◌, ◌+◌, ◌-◌, ◌≤◌}
use Rattle.rx_feed.specs.Replies.{most_data, most_of_piece}
use Rattle.rx_feed.proofs.Streams.{HasRead}
use Rattle.rx_feed.proofs.stream.feed_pieces.Given as goal

abbrev pub invariant-pieces : goal.invariant-pieces
invariant-pieces g l = record {
  table : l.searcher.table ≡ l.initial.searcher.table;
  read : HasRead (g.A.Automaton.table l.initial.searcher.table) (g.A.Automaton.ids l.initial.searcher.table)
      l.initial.searcher.place l.searcher.place
      (record {
        left_before = g.S.Source.left l.initial.src;
        left_after = g.S.Source.left l.src;
        written_before = g.K.Sink.written l.initial.out;
        written_after = g.K.Sink.written l.out;
      });
  taken : l.taken ≡ l.searcher.place.taken;
  few : l.taken ≤ most_data + most_of_piece;
  source_faults : g.S.Source.faults l.initial.src ≤ g.S.Source.faults l.src;
  sink_faults : g.K.Sink.faults l.initial.out ≤ g.K.Sink.faults l.out;
}

abbrev pub decreases-pieces : goal.decreases-pieces
decreases-pieces g l = most_data + 1 - l.taken
