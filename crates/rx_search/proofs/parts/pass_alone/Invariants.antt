use Rattle.rx_spec.proofs.Prelude.{◌≤◌, ◌-◌, row_of}
use Rattle.rx_spec.specs.declared.Direction.{Direction}
use Rattle.rx_search.specs.Passing.{Leads}
use Rattle.rx_search.specs.Starts.{IsId}
use Rattle.rx_search.proofs.parts.pass_alone.Given as goal

abbrev pub invariant-bytes : goal.invariant-bytes
invariant-bytes g l =
    let t = g.A.Automaton.table l.dfa in
    let ids = g.A.Automaton.ids l.dfa in record {
      is_id : IsId ids l.here;
      leads : Leads t Direction.Forward l.haystack (row_of ids l.fn.row) l.from (row_of ids l.here) l.count;
      few : l.count ≤ l.bytes;
    }

abbrev pub decreases-bytes : goal.decreases-bytes
decreases-bytes g l = l.bytes - l.count
