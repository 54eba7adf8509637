use Rattle.rx_base.specs.Input.{query_of}
use Rattle.rx_spec.proofs.Prelude.{row_of}
use Rattle.rx_spec.specs.declared.Direction.{Direction}
use Rattle.rx_search.proofs.Halves.{counted_room}
use Rattle.rx_search.proofs.half.find_fwd_counted.Goals as goal

pub half_search-requires-clause-room : goal.half_search-requires-clause-room
half_search-requires-clause-room g c =
    let table = c.args.cursor.now.table in
    counted_room (g.A.Automaton.table table) Direction.Forward (query_of c.args.input.now)
    (row_of (g.A.Automaton.ids table) c.args.cursor.now.row) c.args.steps.now c.requires.fits.within c.requires.room
