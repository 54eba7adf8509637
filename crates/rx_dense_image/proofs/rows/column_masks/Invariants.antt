use Rattle.rx_spec.proofs.Prelude.{◌≡◌, ℕ, ◌<◌, length, slice_index}
use Rattle.rx_dense_image.specs.Bulk.{column_mask}
use Rattle.rx_dense_image.proofs.rows.column_masks.Given as goal

abbrev pub invariant-loop-k : goal.invariant-loop-k
invariant-loop-k l = record {
  len : length l.masks ≡ 512;
  each : (k : ℕ) → k < l.k → slice_index l.masks k ≡ column_mask l.stride l.alphabet k;
}
