use Rattle.rx_spec.proofs.Prelude.{◌≡◌, ◌+◌, ◌++◌, length, map, concat, vec_items}
use Rattle.rx_dense.specs.Builder.{pattern_lists, slices_from}
use Rattle.rx_dense.proofs.dfa.pattern_map.slices.Given as goal

abbrev pub invariant-loop-list : goal.invariant-loop-list
invariant-loop-list l = record {
  left : l.start + length (concat (map vec_items l.list-iterator)) ≡ length (concat (pattern_lists l.map));
  words : l.slices.items ++ slices_from l.start (map vec_items l.list-iterator) ≡ slices_from 0 (pattern_lists l.map);
}
