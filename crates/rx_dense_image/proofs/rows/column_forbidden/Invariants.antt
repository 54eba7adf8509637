use Rattle.rx_spec.proofs.Prelude.{◌≡◌, ℕ, ◌<◌, length, slice_index}
use Rattle.rx_dense_image.specs.Bulk.{column_forbidden}
use Rattle.rx_dense_image.proofs.rows.column_forbidden.Given as goal

abbrev pub invariant-loop-k : goal.invariant-loop-k
invariant-loop-k l = record {
  len : length l.forbidden ≡ 512;
  each : (k : ℕ) → k < l.k → slice_index l.forbidden k ≡ column_forbidden l.stride l.alphabet k;
}
