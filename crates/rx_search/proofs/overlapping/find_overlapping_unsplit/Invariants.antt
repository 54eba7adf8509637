use Rattle.rx_spec.proofs.Prelude.{◌≡◌, length}
use Rattle.rx_base.specs.Input.{query_of}
use Rattle.rx_search.specs.OverlappingCalls.{Fits, remaining_matches, next_call}
use Rattle.rx_search.specs.SplitSearches.{remaining_unsplit}
use Rattle.rx_search.proofs.overlapping.find_overlapping_unsplit.Given as goal

abbrev pub invariant-splits : goal.invariant-splits
invariant-splits g l =
    let t = g.A.Automaton.table l.dfa in
    let ids = g.A.Automaton.ids l.dfa in
    let q = query_of l.input in record {
      state : Fits t ids q l.state;
      same : next_call (remaining_unsplit t ids l.direction q l.state)
          ≡ next_call (remaining_unsplit t ids l.direction q l.fn.state);
    }

abbrev pub decreases-splits : goal.decreases-splits
decreases-splits g l =
    length (remaining_matches (g.A.Automaton.table l.dfa) (g.A.Automaton.ids l.dfa)
    l.direction (query_of l.input) l.state).items
