use Rattle.rx_spec.proofs.Prelude.{common_steps, ◌<◌, length, arith, ap}
use Rattle.rx_sparse.proofs.RowTexts.{whole_ends, whole_ids}
use Rattle.rx_sparse_image.proofs.Pieces.{ends_there, head_there, ids_there, left_there, needles_low, after_is}
use Rattle.rx_sparse_image.proofs.Pieces.{patterns_there, size_low, size_within}
use Rattle.rx_sparse_image.proofs.row_parts.split_parts.Goals as goal

pub split_at-requires-2 : goal.split_at-requires-2
split_at-requires-2 c = grind (arith, common_steps, whole_ends)

pub split_at-requires-3 : goal.split_at-requires-3
split_at-requires-3 c = grind (arith, common_steps, whole_ids)

pub patterns_len-requires : goal.patterns_len-requires
patterns_len-requires c = grind (arith, common_steps, size_low)

pub split_at-requires-4 : goal.split_at-requires-4
split_at-requires-4 c = grind (arith, common_steps, size_within)

pub bounds-rest-0 : goal.bounds-rest-0
bounds-rest-0 c =
    let low : 0 < length c.split_at-4.result.1.now =
    rw (
      c.split_at-4.ensures.back,
      c.patterns_len.ensures,
      c.split_at-3.ensures.back,
      c.split_at-2.ensures.back,
      c.head_number-head.ensures,
      c.split_at.ensures.front,
      c.split_at.ensures.back,
    )
    (omega (arith, ap length (after_is c.requires))) in
    omega arith

pub split_at-requires-5 : goal.split_at-requires-5
split_at-requires-5 c = grind (arith, common_steps, needles_low)

pub returns-clause-head : goal.returns-clause-head
returns-clause-head c = rw (c.head_number-head.ensures, c.split_at.ensures.front) (head_there c.requires)

pub returns-clause-ends : goal.returns-clause-ends
returns-clause-ends c = grind (arith, common_steps, ends_there)

pub returns-clause-next_ids : goal.returns-clause-next_ids
returns-clause-next_ids c = grind (arith, common_steps, ids_there)

pub returns-clause-patterns : goal.returns-clause-patterns
returns-clause-patterns c = grind (arith, common_steps, patterns_there)

pub returns-clause-needles : goal.returns-clause-needles
returns-clause-needles c = grind (arith, common_steps)

pub returns-clause-rest : goal.returns-clause-rest
returns-clause-rest c = grind (arith, common_steps, left_there)
