use Rattle.rx_spec.proofs.Prelude.{◌≡◌, ◌≤◌, length}
use Rattle.rx_spec.specs.Splits.{overlapping_unsplit}
use Rattle.rx_spec.specs.declared.Direction.{Direction}
use Rattle.rx_base.specs.Input.{query_of}
use Rattle.rx_search.specs.OverlappingCalls.{Fits}
use Rattle.rx_search.specs.SplitSearches.{remaining_unsplit}
use Rattle.rx_search.proofs.Collecting.{collect}
use Rattle.rx_search.proofs.which.which_overlapping_matches.Given as goal

abbrev pub invariant-matches : goal.invariant-matches
invariant-matches g l =
    let t = g.A.Automaton.table l.dfa in
    let ids = g.A.Automaton.ids l.dfa in
    let q = query_of l.input in record {
      state : Fits t ids q l.state;
      capacity : t.pattern_len ≤ length l.patset;
      same : collect q.earliest (remaining_unsplit t ids Direction.Forward q l.state) l.patset
          ≡ collect q.earliest (overlapping_unsplit t Direction.Forward q) l.fn.patset;
    }

abbrev pub decreases-matches : goal.decreases-matches
decreases-matches g l =
    length (remaining_unsplit (g.A.Automaton.table l.dfa) (g.A.Automaton.ids l.dfa) Direction.Forward (query_of l.input)
    l.state).items
