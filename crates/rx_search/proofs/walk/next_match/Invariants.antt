use Rattle.rx_spec.proofs.Prelude.{◌≡◌, row_of}
use Rattle.rx_base.specs.Input.{query_of}
use Rattle.rx_search.specs.Walks.{bytes_left}
use Rattle.rx_search.proofs.Progress.{Progress}
use Rattle.rx_search.proofs.walk.next_match.Given as goal

abbrev pub invariant-bytes : goal.invariant-bytes
invariant-bytes g l =
    let ids = g.A.Automaton.ids l.fn.cursor.table in record {
      table : l.cursor.table ≡ l.fn.cursor.table;
      progress : Progress (g.A.Automaton.table l.fn.cursor.table) l.direction (query_of l.input)
          (record { row = row_of ids l.fn.cursor.row; offset = l.fn.from; steps = l.fn.steps })
          (record { row = row_of ids l.cursor.row; offset = l.at; steps = l.steps });
    }

abbrev pub decreases-bytes : goal.decreases-bytes
decreases-bytes g l = bytes_left l.direction (query_of l.input) l.at
