use Rattle.rx_spec.proofs.Prelude.{arith, common_steps}
use Rattle.rx_sparse.proofs.RowTexts.{whole_decoded, whole_ends, whole_ids}
use Rattle.rx_sparse.proofs.state.State.at.Goals as goal

pub split_at-requires-2 : goal.split_at-requires-2
split_at-requires-2 c = grind (arith, common_steps, whole_ends)

pub split_at-requires-3 : goal.split_at-requires-3
split_at-requires-3 c = grind (arith, common_steps, whole_ids)

pub invariant_of-result : goal.invariant_of-result
invariant_of-result c = grind (arith, common_steps, whole_decoded)
