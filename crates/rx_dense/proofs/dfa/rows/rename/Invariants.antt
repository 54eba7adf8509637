use Rattle.rx_spec.proofs.Prelude.{◌≡◌, ◌/◌, ◌^◌, ◌++◌, map, take, drop, slice_index}
use Rattle.rx_dense.proofs.dfa.rows.rename.Given as goal

abbrev pub invariant-loop-id : goal.invariant-loop-id
invariant-loop-id l =
    l.ids
    ≡ map (λ id. slice_index l.new_ids (id / 2 ^ l.stride2)) (take l.id-index l.fn.ids) ++ drop l.id-index l.fn.ids
