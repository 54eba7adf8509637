use Rattle.rx_spec.proofs.Prelude.{◌≡◌, ℕ, ◌<◌, ◌++◌, List, length, map, take, slice_index, flat_map, Row, row_at}
use Rattle.rx_spec.proofs.Prelude.{target}
use Rattle.rx_stepper.proofs.Prelude.{Reads, list_at, only_if, takes}
use Rattle.rx_stepper.proofs.targets.add_targets.Given as goal

abbrev pub invariant-loop-row : goal.invariant-loop-row
invariant-loop-row l = record {
  len : length l.targets ≡ length l.fn.targets;
  lists : (nfa : List Row) (units : List ℕ) → Reads nfa units l.reading.columns.items l.reading.spans.items
      → (column : ℕ) → column < length units
      → let taken = takes l.only l.groups.of.items column in
      let leads = λ (q : ℕ). only_if taken (target (slice_index units column) (row_at nfa q)) in
      list_at (map (λ v. v.items) l.targets) column
      ≡ list_at (map (λ v. v.items) l.fn.targets) column ++ flat_map leads (take l.row-index l.rows);
}
