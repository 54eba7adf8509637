use Rattle.rx_spec.proofs.Prelude.{common_steps, arith}
use Rattle.rx_sparse.proofs.RowPlaces.{length-rows_in}
use Rattle.rx_sparse_image.proofs.RowsAhead.{all_ahead, second_here, whole_here}
use Rattle.rx_sparse_image.proofs.closing.rows_stand.Goals as goal

pub returns-then-image-lt2 : goal.returns-then-image-lt2
returns-then-image-lt2 c = grind (arith, common_steps, length-rows_in)

pub split_parts-requires : goal.split_parts-requires
split_parts-requires c = whole_here c.requires 0 (omega arith) (all_ahead c.requires)

pub returns-then-as_usize-second : goal.returns-then-as_usize-second
returns-then-as_usize-second c = grind (arith, common_steps, length-rows_in, second_here)

pub returns-else-as_usize-second : goal.returns-else-as_usize-second
returns-else-as_usize-second c = grind (arith, common_steps, second_here)
