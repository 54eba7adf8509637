use Rattle.rx_spec.proofs.Prelude.{◌<◌, reverse, sum_by, id_count}
use Rattle.std.specs.List.{AllByRecursion as Every}
use Rattle.rx_expr.specs.Nfa.{meaning}
use Rattle.rx_spec.specs.Closures.{closed_rows}
use Rattle.rx_powerset.specs.Passing.{passing_of}
use Rattle.rx_lemmas.proofs.RowClosures.{weight_of}
use Rattle.rx_powerset.proofs.NfaGraph.{nfa_graph}
use Rattle.rx_lemmas.proofs.GraphSearch.{Searching}
use Rattle.rx_lemmas.proofs.StackSearch.{has}
use Rattle.rx_powerset.proofs.closure.closed.Given as goal

abbrev pub invariant-search : goal.invariant-search
invariant-search l =
    let wanted = closed_rows (meaning l.nfa).rows (passing_of l.passing) l.from in
    record {
      search : Searching (nfa_graph l.nfa l.passing) wanted (has l.seen) l.found.items (reverse l.waiting.items);
      few : Every (λ x. x < id_count) l.found.items;
    }

abbrev pub decreases-search : goal.decreases-search
decreases-search l = sum_by (weight_of (meaning l.nfa).rows) (reverse l.waiting.items)
