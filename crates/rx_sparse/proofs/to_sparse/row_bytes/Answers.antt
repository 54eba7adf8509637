use Rattle.rx_spec.proofs.Prelude.{arith, common_steps}
use Rattle.rx_sparse.proofs.SparseBytes.{all_written, none_written, one_written, written_few, written_id}
use Rattle.rx_sparse.proofs.SparseBytes.{written_offsets, written_patterns}
use Rattle.rx_sparse.proofs.to_sparse.row_bytes.Goals as goal

pub loop-row-init : goal.loop-row-init
loop-row-init g c = grind (arith, common_steps, none_written)

pub add_row-requires-clause-is_id : goal.add_row-requires-clause-is_id
add_row-requires-clause-is_id g c = written_id c.requires.offsets c.loop-row.invariant c.in-Some.ensures.steps

pub add_row-requires-clause-few : goal.add_row-requires-clause-few
add_row-requires-clause-few g c = grind (arith, common_steps, written_few)

pub add_row-requires-clause-few_patterns : goal.add_row-requires-clause-few_patterns
add_row-requires-clause-few_patterns g c =
    written_patterns c.requires.offsets c.loop-row.invariant c.in-Some.ensures.steps

pub add_row-requires-clause-ids : goal.add_row-requires-clause-ids
add_row-requires-clause-ids g c = written_offsets c.requires.offsets c.loop-row.invariant c.in-Some.ensures.steps

pub loop-row-preserved : goal.loop-row-preserved
loop-row-preserved g c =
    one_written c.requires.offsets c.loop-row.invariant c.in-Some.ensures.steps c.in_ok-add_row.ensures

pub returns : goal.returns
returns g c = all_written c.loop-row.invariant (c.in-None.ensures.steps).0
