use Rattle.rx_spec.specs.declared.Direction.{Direction}
use Rattle.rx_base.specs.Input.{query_of}
use Rattle.rx_search.specs.Walks.{bytes_left}
use Rattle.rx_pair.specs.UnderWay.{IsUnderWay}
use Rattle.rx_pair.proofs.beside.pass_both.Given as goal

abbrev pub invariant-bytes : goal.invariant-bytes
invariant-bytes g l =
    let a = g.A.Automaton in record {
      on : IsUnderWay (a.table l.forward) (a.ids l.forward) Direction.Forward (query_of l.after) l.on.row l.on.at;
      back : IsUnderWay (a.table l.reverse) (a.ids l.reverse) Direction.Reverse (query_of l.before) l.back.row
          l.back.at;
    }

abbrev pub decreases-bytes : goal.decreases-bytes
decreases-bytes g l = bytes_left Direction.Forward (query_of l.after) l.on.at
