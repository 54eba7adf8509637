use Rattle.rx_spec.proofs.Prelude.{common_steps, ◌≡◌, ℕ, List, false, ◌∙◌, subst, arith, length, take, length-take, []}
use Rattle.rx_spec.proofs.Prelude.{◌++◌}
use Rattle.rx_search.proofs.Cursors.{at_same}
use Rattle.rx_stream.specs.Remaining.{remaining}
use Rattle.rx_feed.specs.Lines.{end_line, lines}
use Rattle.rx_feed.specs.Outside.{Writes, Written}
use Rattle.rx_feed.specs.Pieces.{IsBroken, IsRead, MeetsQuit}
use Rattle.rx_feed.proofs.Streams.{IsPiece, has_read_more, has_read_none, stream_broken, stream_cut, stream_ended}
use Rattle.rx_feed.proofs.Streams.{stream_long, stream_long_quit, stream_quit}
use Rattle.rx_feed.proofs.stream.feed_pieces.Given as given
use Rattle.rx_feed.proofs.stream.feed_pieces.Goals.{After-feed_piece, At-pieces}
use Rattle.rx_feed.proofs.stream.feed_pieces.Goals as goal

pub pieces-init : goal.pieces-init
pieces-init g c = grind (arith, common_steps, has_read_none)

-- as many bytes were taken as were read
so_far : (g : given.Over) (c : At-pieces g) → c.pieces.taken ≡ length c.pieces.invariant.read.haystack
so_far g c = omega (arith, c.pieces.invariant.taken, c.pieces.invariant.read.read.taken, c.requires.taken)

pub returns-in-End-clause-ends : goal.returns-in-End-clause-ends
returns-in-End-clause-ends g c = λ mode new.
    let a = g.A.Automaton in
    let same = so_far g (goal.at.returns-in-End-clause-ends g c).At-pieces in
    stream_ended c.pieces.invariant.read new (g.S.Source.left c.read.new.self) (g.K.Sink.written c.finish.new.out)
    false c.pieces.taken c.finish.result same (omega (arith, same, c.pieces-test.true)) (λ e. absurd (cc))
    c.in-End.ensures.bytes.0 c.in-End.ensures.bytes.1
    (at_same a.table a.ids (λ t i. Writes (g.K.Sink.written c.pieces.out) (g.K.Sink.written c.finish.new.out)
    (lines (remaining t i c.pieces.searcher.place []) ++ end_line c.pieces.taken) 0 c.finish.result)
    c.pieces.invariant.table c.finish.ensures.written)

pub returns-in-Failed-clause-ends : goal.returns-in-Failed-clause-ends
returns-in-Failed-clause-ends g c = λ mode new.
    let same = so_far g (goal.at.returns-in-Failed-clause-ends g c).At-pieces in
    stream_cut c.pieces.invariant.read new (g.S.Source.left c.read.new.self)
    (omega (arith, same, c.pieces-test.true)) c.in-Failed.ensures.bytes

-- ---- a piece

abbrev piece_of : (g : given.Over) → After-feed_piece g → List ℕ
piece_of g c = take c.in-Got.count c.read.new.buf

abbrev written_of : (g : given.Over) → After-feed_piece g → Written
written_of g c =
    record { before = g.K.Sink.written c.pieces.out; after = g.K.Sink.written c.feed_piece.new.out }

got : (g : given.Over) (c : After-feed_piece g)
    → IsPiece (g.S.Source.left c.pieces.src) (g.S.Source.left c.read.new.self) c.in-Got.count (piece_of g c)
got g c = grind (arith, common_steps, length-take)

pub pieces-preserved : goal.pieces-preserved
pieces-preserved g c =
    let a = g.A.Automaton in
    let at = (goal.at.pieces-preserved g c).After-feed_piece in
    let read = at_same a.table a.ids (λ t i. IsRead t i c.pieces.searcher.place c.feed_piece.new.searcher.place
    (piece_of g at) (written_of g at)) c.pieces.invariant.table c.in-Over.ensures.fed in
    record {
      table = c.feed_piece.ensures.table ∙ c.pieces.invariant.table;
      read = has_read_more c.pieces.invariant.read (got g at) read;
      taken = omega (arith, c.pieces.invariant.taken, read.taken, (got g at).len);
      few = omega (arith, c.pieces-test.true, (got g at).short);
      source_faults = omega (arith, c.pieces.invariant.source_faults, c.in-Got.ensures.cause);
      sink_faults = omega (arith, c.pieces.invariant.sink_faults, c.feed_piece.ensures.counted);
    }

pub returns-in-Failed-feed_piece-clause-ends : goal.returns-in-Failed-feed_piece-clause-ends
returns-in-Failed-feed_piece-clause-ends g c = λ mode new.
    let a = g.A.Automaton in
    let at = goal.at.returns-in-Failed-feed_piece-clause-ends g c in
    let here = at.After-feed_piece in
    let is = at_same a.table a.ids (λ t i. IsBroken t i c.pieces.searcher.place (piece_of g here) (written_of g here))
    c.pieces.invariant.table c.in-Failed-feed_piece.ensures.fed in
    stream_broken c.pieces.invariant.read new (so_far g at.At-pieces) (got g here)
    (omega (arith, c.pieces-test.true)) is

pub returns-in-Quit-clause-ends : goal.returns-in-Quit-clause-ends
returns-in-Quit-clause-ends g c = λ mode new.
    let a = g.A.Automaton in
    let at = goal.at.returns-in-Quit-clause-ends g c in
    let here = at.After-feed_piece in
    let is = at_same a.table a.ids (λ t i. MeetsQuit t i c.pieces.searcher.place (piece_of g here) (written_of g here)
    c.in-Quit.byte c.in-Quit.offset) c.pieces.invariant.table c.in-Quit.ensures.fed in
    stream_long_quit c.pieces.invariant.read new (so_far g at.At-pieces) (got g here) is
    (g.K.Sink.written c.write_reply.new.out) c.write_reply.result (omega (arith, c.if-taken-gt-MOST_DATA.true))
    (omega (arith, c.pieces-test.true)) c.write_reply.ensures.written

pub returns-in-Quit-2-clause-ends : goal.returns-in-Quit-2-clause-ends
returns-in-Quit-2-clause-ends g c = λ mode new.
    let a = g.A.Automaton in
    let at = goal.at.returns-in-Quit-2-clause-ends g c in
    let here = at.After-feed_piece in
    let is = at_same a.table a.ids (λ t i. MeetsQuit t i c.pieces.searcher.place (piece_of g here) (written_of g here)
    c.in-Quit.byte c.in-Quit.offset) c.pieces.invariant.table c.in-Quit.ensures.fed in
    let last = g.K.Sink.written c.write_reply-in-Quit-2.new.out in
    stream_quit c.pieces.invariant.read new (so_far g at.At-pieces) (got g here) is last
    c.write_reply-in-Quit-2.result (omega (arith, c.if-taken-gt-MOST_DATA.false))
    (subst (λ l. Writes (g.K.Sink.written c.feed_piece.new.out) last l 4 c.write_reply-in-Quit-2.result)
    (c.as_slice.ensures ∙ c.quit_line.ensures) c.write_reply-in-Quit-2.ensures.written)

pub returns-clause-ends : goal.returns-clause-ends
returns-clause-ends g c = λ mode new.
    let same = so_far g (goal.at.returns-clause-ends g c).At-pieces in
    stream_long c.pieces.invariant.read new (g.K.Sink.written c.write_reply-2.new.out) c.write_reply-2.result
    (omega (arith, same, c.pieces-test.false)) (omega (arith, same, c.pieces.invariant.few))
    c.write_reply-2.ensures.written
