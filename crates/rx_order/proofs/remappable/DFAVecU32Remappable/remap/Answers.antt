use Rattle.rx_spec.proofs.Prelude.{arith, ◌∙◌, common_steps}
use Rattle.rx_order.proofs.Prelude.{IsId-row_id}
use Rattle.rx_order.proofs.RowLists.{id_in_words, row_lists_count, rows_renamed}
use Rattle.rx_order.proofs.remappable.DFAVecU32Remappable.remap.Goals as goal

pub remap-requires-clause-count : goal.remap-requires-clause-count
remap-requires-clause-count c = c.requires.count ∙ row_lists_count c.args.self.now

pub remap-requires-clause-ids : goal.remap-requires-clause-ids
remap-requires-clause-ids c =
    λ k d h. IsId-row_id c.args.self.now _ (id_in_words c.args.self.now _ (c.requires.ids k d h))

pub returns-clause-renamed : goal.returns-clause-renamed
returns-clause-renamed c = grind (arith, common_steps, rows_renamed)

pub prove-unreachable-requires : goal.prove-unreachable-requires
prove-unreachable-requires c = grind (arith, common_steps, row_lists_count)
