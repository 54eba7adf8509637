use Rattle.rx_spec.proofs.Prelude.{◌≡◌, ◌+◌, All, length, slice_index}
use Rattle.rx_search.specs.Starts.{IsId}
use Rattle.rx_prefilter.proofs.literal.only_way.Given as goal

abbrev pub invariant-loop : goal.invariant-loop
invariant-loop g l = record {
  first : slice_index l.rows.items 0 ≡ l.fn.start;
  count : length l.rows.items ≡ length l.bytes.items + 1;
  are_ids : All (IsId (g.A.Automaton.ids l.dfa)) l.rows.items;
  is_id : IsId (g.A.Automaton.ids l.dfa) l.row;
}
