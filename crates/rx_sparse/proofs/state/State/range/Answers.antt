use Rattle.rx_spec.proofs.Prelude.{common_steps, arith}
use Rattle.rx_sparse.proofs.DecodedRows.{range_is, range_place}
use Rattle.rx_sparse.proofs.state.State.range.Goals as goal

pub bounds-ends-i : goal.bounds-ends-i
bounds-ends-i c = grind (arith, common_steps, range_place)

pub bounds-ends-i-2 : goal.bounds-ends-i-2
bounds-ends-i-2 c = grind (arith, common_steps, range_place)

pub word_at-requires : goal.word_at-requires
word_at-requires c = grind (arith, common_steps, range_place)

pub returns : goal.returns
returns c = grind (arith, common_steps, range_is)

pub overflow_mul-result : goal.overflow_mul-result
overflow_mul-result c = grind (arith, common_steps, range_place)

pub overflow_mul-result-2 : goal.overflow_mul-result-2
overflow_mul-result-2 c = grind (arith, common_steps, range_place)

pub overflow_add-result : goal.overflow_add-result
overflow_add-result c = grind (arith, common_steps, range_place)
