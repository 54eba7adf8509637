use Rattle.rx_spec.proofs.Prelude.{length, ◌-◌, ◌≤◌, row_of}
use Rattle.rx_search.specs.Starts.{IsId}
use Rattle.rx_stream.specs.Pieces.{IsQuietWalk}
use Rattle.rx_stream.proofs.walk.walk_far.Given as goal

abbrev pub invariant-passes : goal.invariant-passes
invariant-passes g l =
    let a = g.A.Automaton in
    let table = l.fn.table in
    IsId (a.ids table) l.row
    × IsQuietWalk (a.table table) (row_of (a.ids table) l.fn.start) l.fn.piece l.fn.from
    (row_of (a.ids table) l.row) l.at

abbrev pub decreases-passes : goal.decreases-passes
decreases-passes g l = length l.piece - l.at

abbrev pub invariant-bytes : goal.invariant-bytes
invariant-bytes g l =
    let a = g.A.Automaton in
    let table = l.fn.table in record {
      is_id : IsId (a.ids table) l.row;
      walk : IsQuietWalk (a.table table) (row_of (a.ids table) l.fn.start) l.fn.piece l.fn.from
          (row_of (a.ids table) l.row) l.at;
      on : l.begun ≤ l.at;
    }

abbrev pub decreases-bytes : goal.decreases-bytes
decreases-bytes g l = length l.piece - l.at
