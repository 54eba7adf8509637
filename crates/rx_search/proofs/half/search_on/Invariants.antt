use Rattle.rx_spec.proofs.Prelude.{◌≡◌, AreBytes, row_of}
use Rattle.rx_base.specs.Input.{query_of}
use Rattle.rx_search.specs.Walks.{bytes_left}
use Rattle.rx_search.proofs.Halves.{HalfProgress}
use Rattle.rx_search.proofs.half.search_on.Given as goal

abbrev pub invariant-matches : goal.invariant-matches
invariant-matches g l =
    let ids = g.A.Automaton.ids l.fn.cursor.table in
    let q = query_of l.input in record {
      table : l.cursor.table ≡ l.fn.cursor.table;
      bytes : AreBytes q.haystack;
      progress : HalfProgress (g.A.Automaton.table l.fn.cursor.table) l.direction q
          (record { row = row_of ids l.fn.cursor.row; offset = l.fn.from; steps = l.fn.steps })
          (record { row = row_of ids l.cursor.row; offset = l.at; steps = l.steps }) l.last;
    }

abbrev pub decreases-matches : goal.decreases-matches
decreases-matches g l = bytes_left l.direction (query_of l.input) l.at
