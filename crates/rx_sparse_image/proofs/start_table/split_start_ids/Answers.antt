use Rattle.rx_spec.proofs.Prelude.{common_steps, arith, length-map-range_with_len}
use Rattle.rx_image_parts.specs.Words.{words_at}
use Rattle.rx_sparse_image.proofs.start_table.split_start_ids.Goals as goal

pub returns-clause-read : goal.returns-clause-read
unfolding words_at
returns-clause-read c = grind (arith, common_steps)

pub returns-clause-count : goal.returns-clause-count
returns-clause-count c = grind (arith, common_steps, length-map-range_with_len)
