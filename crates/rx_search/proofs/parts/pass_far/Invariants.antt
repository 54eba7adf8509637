use Rattle.rx_spec.proofs.Prelude.{◌≤◌, ◌-◌, row_of}
use Rattle.rx_spec.specs.declared.Direction.{Direction}
use Rattle.rx_search.specs.Passing.{Leads}
use Rattle.rx_search.specs.Starts.{IsId}
use Rattle.rx_search.proofs.parts.pass_far.Given as goal

abbrev pub invariant-turns : goal.invariant-turns
invariant-turns g l =
    let t = g.A.Automaton.table l.dfa in
    let ids = g.A.Automaton.ids l.dfa in record {
      is_id : IsId ids l.passed.row;
      leads : Leads t Direction.Forward l.haystack (row_of ids l.fn.row) l.from (row_of ids l.passed.row)
          l.passed.count;
      few : l.passed.count ≤ l.end - l.from;
      some : 1 ≤ l.alone;
      bounded : l.alone ≤ 524288;
    }

abbrev pub decreases-turns : goal.decreases-turns
decreases-turns g l = l.end - l.from - l.passed.count
