use Rattle.rx_spec.proofs.Prelude.{◌≤◌, ◌-◌, take, length, row_of}
use Rattle.rx_search.specs.Labels.{patterns_of}
use Rattle.rx_scan.specs.Walks.{IsLowest}
use Rattle.rx_scan.proofs.longest.lowest.Given as goal

abbrev pub invariant-patterns : goal.invariant-patterns
invariant-patterns g l =
    let ks = patterns_of (g.A.Automaton.table l.table) (row_of (g.A.Automaton.ids l.table) l.row) in record {
      some : 1 ≤ l.i;
      within : l.i ≤ length ks;
      lowest : IsLowest (take l.i ks) l.lowest;
    }

abbrev pub decreases-patterns : goal.decreases-patterns
decreases-patterns g l = l.len - l.i
