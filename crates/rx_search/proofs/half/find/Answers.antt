use Rattle.rx_spec.proofs.Prelude.{rules, ◌+◌, ◌<◌, ◌^◌, length, inr, row_of}
use Rattle.rx_base.specs.Input.{query_of}
use Rattle.rx_search.proofs.Halves.{counted_room}
use Rattle.rx_search.proofs.half.find.Goals as goal

pub half_search-requires-clause-room : goal.half_search-requires-clause-room
half_search-requires-clause-room g c =
    let q = query_of c.args.input.now in
    let table = c.in-Ok.cursor.table.now in
    let row = row_of (g.A.Automaton.ids table) c.in-Ok.cursor.row in
    let room : c.new-steps.result + length q.haystack + 1 < 2 ^ 64 = search rules in
    counted_room (g.A.Automaton.table table) c.args.direction q row c.new-steps.result c.requires.fits.within (inr room)
