use Rattle.rx_spec.proofs.Prelude.{◌≡◌, ◌+◌, ◌≤◌, length, map, concat, vec_items, max_id}
use Rattle.rx_dense.specs.Builder.{pattern_lists}
use Rattle.rx_dense.proofs.dfa.pattern_map.joined_len.Given as goal

abbrev pub invariant-loop-list : goal.invariant-loop-list
invariant-loop-list l = record {
  few : l.len ≤ max_id;
  left : l.len + length (concat (map vec_items l.list-iterator)) ≡ length (concat (pattern_lists l.map));
}
