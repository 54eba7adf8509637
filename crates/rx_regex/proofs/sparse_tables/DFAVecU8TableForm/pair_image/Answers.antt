use Rattle.rx_regex.proofs.sparse_tables.DFAVecU8TableForm.pair_image.Goals as goal

pub returns : goal.returns
returns c = rw (c.forward.ensures.table, c.reverse.ensures.table) at c.sparse_pair.ensures
