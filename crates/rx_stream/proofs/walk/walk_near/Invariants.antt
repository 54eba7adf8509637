use Rattle.rx_spec.proofs.Prelude.{length, ◌-◌, row_of}
use Rattle.rx_search.specs.Starts.{IsId}
use Rattle.rx_stream.specs.Pieces.{IsQuietWalk}
use Rattle.rx_stream.proofs.walk.walk_near.Given as goal

abbrev pub invariant-bytes : goal.invariant-bytes
invariant-bytes g l =
    let a = g.A.Automaton in
    let table = l.fn.table in
    IsId (a.ids table) l.row
    × IsQuietWalk (a.table table) (row_of (a.ids table) l.fn.start) l.fn.piece l.fn.from
    (row_of (a.ids table) l.row) l.at

abbrev pub decreases-bytes : goal.decreases-bytes
decreases-bytes g l = length l.piece - l.at
