-- A table in which all rows that behave alike are one row.
use Rattle.std.specs.Prelude.{ℕ, ◌≡◌, ◌↔◌, ◌<◌, ◌==◌, List, length, slice_index}
use Rattle.rx_spec.specs.Queries.{Anchored}
use Rattle.rx_spec.specs.Tables.{Table}
use Rattle.rx_spec.specs.declared.Start.{Start}
use Rattle.rx_refine.specs.Moves.{Moves, next_row}

-- The moves of a table by its columns: each unit has a column, each column a unit, and labels have one number exactly
-- where they are equal.
pub record AreMovesByColumn (t : Table) (m : Moves) (labels : List ℕ) (column_of : ℕ → ℕ) : Type 0 where
  pub rows : m.rows ≡ t.size
  pub below : (unit : ℕ) → unit < 257 → column_of unit < m.units
  pub used : (column : ℕ) → column < m.units → (unit : ℕ) × (unit < 257) × (column_of unit ≡ column)
  pub nexts : (row unit : ℕ) → row < t.size → unit < 257
      → t.machine.next row unit ≡ next_row m row (column_of unit)
  pub labelled : (x y : ℕ) → x < t.size → y < t.size
      → (slice_index labels x ≡ slice_index labels y) ↔ (t.machine.label x ≡ t.machine.label y)

-- The first row of each block is left, at the place of the block's number; what led to a row leads to its block's
-- number.
pub record IsQuotient (t : Table) (numbers firsts : List ℕ) (q : Table) : Type 0 where
  pub size : q.size ≡ length firsts
  pub entries : (mode : Anchored) (start : Start)
      → q.machine.entry mode start ≡ slice_index numbers (t.machine.entry mode start)
  pub nexts : (row unit : ℕ) → row < q.size → unit < 257
      → q.machine.next row unit ≡ slice_index numbers (t.machine.next (slice_index firsts row) unit)
  pub labels : (row : ℕ) → row < q.size → q.machine.label row ≡ t.machine.label (slice_index firsts row)
  pub dead_only : (row : ℕ) → row < q.size → q.machine.is_dead row ≡ (row == 0)
  pub settings : q.settings ≡ t.settings
