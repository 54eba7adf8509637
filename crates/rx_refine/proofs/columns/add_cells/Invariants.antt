use Rattle.rx_refine.proofs.Prelude.{[], slice_index_or, slice_range, ℕ, ◌*◌, ◌++◌, ◌+◌, ◌<◌, ◌≡◌, ◌≤◌}
use Rattle.rx_refine.proofs.columns.add_cells.Given as goal

abbrev pub invariant-loop-unit : goal.invariant-loop-unit
invariant-loop-unit l = record {
  done : (unit : ℕ) → unit < l.unit
      → slice_index_or l.columns unit []
      ≡ slice_index_or l.fn.columns unit [] ++ slice_range l.transposed (unit * l.count) ((unit + 1) * l.count);
  rest : (unit : ℕ) → l.unit ≤ unit → slice_index_or l.columns unit [] ≡ slice_index_or l.fn.columns unit [];
}
