use Rattle.rx_spec.proofs.Prelude.{◌≡◌, ◌++◌, map, take, concat, vec_items}
use Rattle.rx_dense.specs.Builder.{pattern_lists}
use Rattle.rx_dense.proofs.dfa.pattern_map.joined.Given as goal

abbrev pub invariant-loop-id : goal.invariant-loop-id
invariant-loop-id l = l.ids.items ≡ l.initial.ids.items ++ take l.id-index l.id-items

abbrev pub invariant-loop-list : goal.invariant-loop-list
invariant-loop-list l = l.ids.items ++ concat (map vec_items l.list-iterator) ≡ concat (pattern_lists l.map)
