-- A table with its rows at other places.
use Rattle.std.specs.Prelude.{ℕ, ◌≡◌, ◌<◌, List, slice_index}
use Rattle.std.specs.List.{range_with_len}
use Rattle.std.specs.List.Sorted.{IsPermutation}
use Rattle.rx_spec.specs.Queries.{Anchored}
use Rattle.rx_spec.specs.Tables.{Table}
use Rattle.rx_spec.specs.declared.Start.{Start}

-- The list has for each row of the first table the number of that row in the second one: there it leads to the rows to
-- which it led, and searches start in the rows in which they started. Dead and quit stay where they are.
pub record IsPermuted (numbers : List ℕ) (t u : Table) : Type 0 where
  pub permutation : IsPermutation (range_with_len 0 t.size) numbers
  pub size : u.size ≡ t.size
  pub dead : slice_index numbers 0 ≡ 0
  pub quit : slice_index numbers 1 ≡ 1
  pub entries : (mode : Anchored) (start : Start)
      → u.machine.entry mode start ≡ slice_index numbers (t.machine.entry mode start)
  pub nexts : (row unit : ℕ) → row < t.size → unit < 257
      → u.machine.next (slice_index numbers row) unit ≡ slice_index numbers (t.machine.next row unit)
