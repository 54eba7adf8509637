use Rattle.rx_dense.proofs.Rows.{IsId-row_id}
use Rattle.rx_sparse.proofs.to_sparse.special.Goals as goal

pub offset-requires-clause-is_id : goal.offset-requires-clause-is_id
offset-requires-clause-is_id g c = rw c.special-special.ensures (IsId-row_id c.args.dfa.now _ c.requires.special.max)

pub offset-requires-2-clause-is_id : goal.offset-requires-2-clause-is_id
offset-requires-2-clause-is_id g c = rw c.special-special.ensures (IsId-row_id c.args.dfa.now _ c.requires.special.quit)

pub offset-requires-3-clause-is_id : goal.offset-requires-3-clause-is_id
offset-requires-3-clause-is_id g c =
    rw c.special-special.ensures (IsId-row_id c.args.dfa.now _ c.requires.special.min_match)

pub offset-requires-4-clause-is_id : goal.offset-requires-4-clause-is_id
offset-requires-4-clause-is_id g c =
    rw c.special-special.ensures (IsId-row_id c.args.dfa.now _ c.requires.special.max_match)

pub offset-requires-5-clause-is_id : goal.offset-requires-5-clause-is_id
offset-requires-5-clause-is_id g c =
    rw c.special-special.ensures (IsId-row_id c.args.dfa.now _ c.requires.special.min_accel)

pub offset-requires-6-clause-is_id : goal.offset-requires-6-clause-is_id
offset-requires-6-clause-is_id g c =
    rw c.special-special.ensures (IsId-row_id c.args.dfa.now _ c.requires.special.max_accel)

pub offset-requires-7-clause-is_id : goal.offset-requires-7-clause-is_id
offset-requires-7-clause-is_id g c =
    rw c.special-special.ensures (IsId-row_id c.args.dfa.now _ c.requires.special.min_start)

pub offset-requires-8-clause-is_id : goal.offset-requires-8-clause-is_id
offset-requires-8-clause-is_id g c =
    rw c.special-special.ensures (IsId-row_id c.args.dfa.now _ c.requires.special.max_start)
