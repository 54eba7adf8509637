use Rattle.rx_spec.proofs.Prelude.{common_steps, refl, arith, ◌≡◌, slice_index, row_of}
use Rattle.rx_search.specs.Labels.{patterns_of}
use Rattle.rx_search.proofs.Cursors.{held_by, held_row, at_same, row_at}
use Rattle.rx_search.proofs.Walks.{bytes_of}
use Rattle.rx_stream.specs.Pieces.{HaltsAt}
use Rattle.rx_stream.specs.declared.walk.Halt.{Halt}
use Rattle.rx_stream.proofs.Feed.{open_stage, fed_match, fed_quit, fed_all}
use Rattle.rx_stream.proofs.searcher.StreamSearcher.feed.Goals as goal

pub match_pattern-requires-clause-within : goal.match_pattern-requires-clause-within
match_pattern-requires-clause-within g c = grind (arith, common_steps, held_by)

pub returns-in-Some-clause-fed : goal.returns-in-Some-clause-fed
returns-in-Some-clause-fed g c = grind (arith, common_steps)

pub returns-in-Match-clause-fed : goal.returns-in-Match-clause-fed
returns-in-Match-clause-fed g c =
    let was_open = open_stage c.args.self.now.place.stage c.requires.open in
    let a = g.A.Automaton in
    let met = g.met.A.Automaton in
    let first = c.args.self.now.table in
    let here = c.next_pattern.new.self in
    let held = held_by met.sound met.are_ids first c.args.self.now.sound in
    let halt = at_same a.table a.ids (λ t i. HaltsAt t i (row_of i here.place.row) c.args.piece.now c.args.from
    (Halt.Match c.in-Match.row c.in-Match.at)) c.next_pattern.ensures.table c.in-Match.ensures in
    rw c.with_event-in-Match.ensures
    (fed_match was_open c.in_default.ensures.told (held_row held c.in-Match.row halt.0) halt.1
    (row_at a.table a.ids (λ t row. c.match_pattern.result ≡ slice_index (patterns_of t row) 0) c.in-Match.row
    c.next_pattern.ensures.table c.match_pattern.ensures)
    c.new-found.ensures)

pub returns-in-Quit-clause-fed : goal.returns-in-Quit-clause-fed
returns-in-Quit-clause-fed g c =
    let was_open = open_stage c.args.self.now.place.stage c.requires.open in
    let a = g.A.Automaton in
    let met = g.met.A.Automaton in
    let first = c.args.self.now.table in
    let here = c.next_pattern.new.self in
    let held = held_by met.sound met.are_ids first c.args.self.now.sound in
    let bytes = bytes_of c.args.piece.now c.args.piece.now refl (λ k. omega (arith, c.type_inv.piece k)) in
    let halt = at_same a.table a.ids (λ t i. HaltsAt t i (row_of i here.place.row) c.args.piece.now c.args.from
    (Halt.Quit c.in-Quit.row c.in-Quit.byte c.in-Quit.at)) c.next_pattern.ensures.table c.in-Quit.ensures in
    rw c.with_event-in-Quit.ensures
    (fed_quit was_open c.in_default.ensures.told bytes (held_row held c.in-Quit.row halt.0) halt.1)

pub returns-in-End-clause-fed : goal.returns-in-End-clause-fed
returns-in-End-clause-fed g c =
    let was_open = open_stage c.args.self.now.place.stage c.requires.open in
    let a = g.A.Automaton in
    let here = c.next_pattern.new.self in
    let halt = at_same a.table a.ids (λ t i. HaltsAt t i (row_of i here.place.row) c.args.piece.now c.args.from
    (Halt.End c.in-End.row)) c.next_pattern.ensures.table c.in-End.ensures in
    fed_all was_open c.in_default.ensures.told c.requires.within halt.1
