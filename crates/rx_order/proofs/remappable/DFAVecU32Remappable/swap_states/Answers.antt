use Rattle.rx_spec.proofs.Prelude.{rules}
use Rattle.rx_order.proofs.Prelude.{IsId-row_id}
use Rattle.rx_order.proofs.RowLists.{id_in_words, rows_swapped}
use Rattle.rx_order.proofs.remappable.DFAVecU32Remappable.swap_states.Goals as goal

pub swap_states-requires-clause-id1 : goal.swap_states-requires-clause-id1
swap_states-requires-clause-id1 c = IsId-row_id c.args.self.now _ (id_in_words c.args.self.now _ c.requires.id1)

pub swap_states-requires-clause-id2 : goal.swap_states-requires-clause-id2
swap_states-requires-clause-id2 c = IsId-row_id c.args.self.now _ (id_in_words c.args.self.now _ c.requires.id2)

pub returns-clause-swapped : goal.returns-clause-swapped
returns-clause-swapped c = search (rules, rows_swapped, id_in_words)
