use Rattle.rx_spec.proofs.Prelude.{◌-◌}
use Rattle.rx_base.specs.Input.{query_of}
use Rattle.rx_prefilter.specs.Literals.{IsGoing, rows_at}
use Rattle.rx_prefilter.proofs.search.search_by.Given as goal

abbrev pub invariant-literals : goal.invariant-literals
invariant-literals g l = IsGoing (g.A.Automaton.table l.dfa) (query_of l.input)
    (rows_at (g.A.Automaton.ids l.dfa) l.literal.rows.items 0) l.at

abbrev pub decreases-literals : goal.decreases-literals
decreases-literals g l = (query_of l.input).end - l.at
