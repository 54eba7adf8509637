use Rattle.rx_spec.proofs.Prelude.{ℕ, ◌≤◌, ◌-◌, length, row_of}
use Rattle.rx_search.specs.Starts.{IsId}
use Rattle.rx_scan.specs.Walks.{IsWalk, Walked, kept_met}
use Rattle.rx_scan.proofs.longest.go_on.Given as goal

abbrev pub invariant-bytes : goal.invariant-bytes
invariant-bytes g l =
    let t = g.A.Automaton.table l.table in
    let ids = g.A.Automaton.ids l.table in record {
      is_id : IsId ids l.row;
      low : l.fn.walk.at ≤ l.at;
      high : l.at ≤ length l.text;
      walk : (p : ℕ) → IsWalk t ids l.text p l.fn.walk
          → Walked t ids l.text p (row_of ids l.row) l.at (kept_met p l.last);
    }

abbrev pub decreases-bytes : goal.decreases-bytes
decreases-bytes g l = length l.text - l.at
