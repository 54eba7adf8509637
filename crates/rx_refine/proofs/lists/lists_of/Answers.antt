use Rattle.rx_refine.proofs.Prelude.{arith, common_steps}
use Rattle.rx_refine.proofs.TableColumns.{column_small}
use Rattle.rx_refine.proofs.lists.lists_of.Goals as goal

pub new-requires-clause-small : goal.new-requires-clause-small
new-requires-clause-small c = grind (arith, common_steps, column_small)
