use Rattle.rx_spec.proofs.Prelude.{arith, ℕ, ◌<◌, List, length, slice_index, sym, subst, common_steps}
use Rattle.rx_dense.specs.Layouts.{IsRowId}
use Rattle.rx_sparse.proofs.SparseBytes.{exponent, offset_within, starts_written}
use Rattle.rx_sparse.proofs.to_sparse.start_bytes.Goals as goal

pub offset-requires-clause-exponent : goal.offset-requires-clause-exponent
offset-requires-clause-exponent g c = exponent c.args.dfa.now c.args.offsets.now c.requires

pub offset-requires-clause-within : goal.offset-requires-clause-within
offset-requires-clause-within g c =
    let l = c.args.dfa.now in
    let i = c.loop-id.id-index in
    let low : i < length l.starts =
    subst (λ (ids : List ℕ). i < length ids) c.start_ids-ids.ensures.value c.loop-id-test.true in
    offset_within l c.args.offsets.now c.requires _
    (subst (λ (ids : List ℕ). IsRowId l (slice_index ids i)) (sym c.start_ids-ids.ensures.value)
    (c.start_ids-ids.ensures.starts.start_ids i low))

pub returns-clause-bytes : goal.returns-clause-bytes
returns-clause-bytes g c = grind (arith, common_steps, starts_written)
