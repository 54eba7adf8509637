use Rattle.rx_spec.proofs.Prelude.{arith, common_steps}
use Rattle.rx_order.proofs.RowLists.{are_row_lists, row_lists_count}
use Rattle.rx_order.proofs.remappable.DFAVecU32Remappable.state_len.Goals as goal

pub returns-clause-value : goal.returns-clause-value
returns-clause-value c = grind (arith, common_steps, row_lists_count)

pub returns-clause-rows : goal.returns-clause-rows
returns-clause-rows c = are_row_lists c.args.self.now c.words.ensures.rows c.words.ensures.starts
