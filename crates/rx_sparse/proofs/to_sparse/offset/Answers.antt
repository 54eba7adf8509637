use Rattle.rx_spec.proofs.Prelude.{arith, common_steps}
use Rattle.rx_dense.proofs.Rows.{IsRowId-id}
use Rattle.rx_sparse.proofs.SparseBytes.{exponent, offset_same, offset_small, offset_within}
use Rattle.rx_sparse.proofs.to_sparse.offset.Goals as goal

pub offset-requires-clause-exponent : goal.offset-requires-clause-exponent
offset-requires-clause-exponent g c = exponent c.args.dfa.now c.args.offsets.now c.requires.offsets

pub offset-requires-clause-within : goal.offset-requires-clause-within
offset-requires-clause-within g c =
    rw c.as_u32.ensures.value
    (offset_within c.args.dfa.now c.args.offsets.now c.requires.offsets c.args.id
    (IsRowId-id c.args.dfa.now c.args.id c.requires.is_id))

pub must-requires : goal.must-requires
must-requires g c =
    rw (c.offset.ensures, c.as_u32.ensures.value)
    (offset_small c.args.dfa.now c.args.offsets.now c.requires.offsets c.args.id
    (IsRowId-id c.args.dfa.now c.args.id c.requires.is_id))

pub returns : goal.returns
returns g c = grind (arith, common_steps, offset_same)
