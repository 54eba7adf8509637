use Rattle.rx_spec.proofs.Prelude.{◌-◌, ◌≤◌}
use Rattle.rx_base.specs.Input.{query_of}
use Rattle.rx_prefilter.specs.Literals.{IsStopped}
use Rattle.rx_prefilter.proofs.search.pass.Given as goal

abbrev pub invariant-bytes : goal.invariant-bytes
invariant-bytes g l = record {
  stopped : IsStopped (g.A.Automaton.table l.dfa) (g.A.Automaton.ids l.dfa) (query_of l.input) l.row l.at;
  on : l.from ≤ l.at;
}

abbrev pub decreases-bytes : goal.decreases-bytes
decreases-bytes g l = (query_of l.input).end - l.at
