use Rattle.rx_spec.proofs.Prelude.{common_steps, arith}
use Rattle.rx_dense_image.proofs.pattern_lists.split_pattern_lists.Goals as goal

pub returns-clause-lists : goal.returns-clause-lists
returns-clause-lists c = grind (arith, common_steps)
