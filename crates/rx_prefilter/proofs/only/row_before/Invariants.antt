use Rattle.rx_spec.proofs.Prelude.{◌≤◌, length, row_of}
use Rattle.rx_search.specs.Starts.{IsId}
use Rattle.rx_prefilter.specs.OnlyLiterals.{LeadsBack}
use Rattle.rx_prefilter.proofs.only.row_before.Given as goal

abbrev pub invariant-bytes : goal.invariant-bytes
invariant-bytes g l =
    let ids = g.A.Automaton.ids l.dfa in
    record {
      is_id : IsId ids l.row;
      few : l.left ≤ length l.literal;
      back : LeadsBack (g.A.Automaton.table l.dfa) l.literal (row_of ids l.fn.start) l.left (row_of ids l.row);
    }

abbrev pub decreases-bytes : goal.decreases-bytes
decreases-bytes g l = l.left
