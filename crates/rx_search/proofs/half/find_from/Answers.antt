use Rattle.rx_spec.proofs.Prelude.{rules, ◌+◌, ◌<◌, ◌^◌, length, row_of}
use Rattle.rx_base.specs.Input.{query_of}
use Rattle.rx_search.proofs.Halves.{room_left}
use Rattle.rx_search.proofs.half.find_from.Goals as goal

pub search_on-requires-clause-room : goal.search_on-requires-clause-room
search_on-requires-clause-room g c =
    let q = query_of c.args.input.now in
    let table = c.at-cursor.result.table.now in
    let row = row_of (g.A.Automaton.ids table) c.at-cursor.result.row in
    let room : c.new-steps.result + length q.haystack + 1 < 2 ^ 64 = search rules in
    room_left (g.A.Automaton.table table) c.args.direction c.args.at row c.new-steps.result
    c.requires.fits.within c.requires.in_span room
