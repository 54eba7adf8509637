use Rattle.rx_refine.proofs.Prelude.{[], length, slice_index_or, ℕ, ◌≡◌}
use Rattle.rx_refine.proofs.columns.empty_columns.Given as goal

abbrev pub invariant-loop-unit : goal.invariant-loop-unit
invariant-loop-unit l = record {
  len : length l.columns.items ≡ l._unit;
  empty : (unit : ℕ) → slice_index_or l.columns.items unit [] ≡ [];
}
