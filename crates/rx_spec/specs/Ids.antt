-- Rows as numbers and as ids. A program names a row by an id that it can use at once: the place of its first
-- entry in a dense table, the offset of its bytes in a sparse one.
use Rattle.std.specs.Prelude.{ℕ, ◌≡◌, ◌*◌, ◌^◌, ◌==◌, List, length, map, slice_index, position, unwrap_or}
use Rattle.std.specs.List.{range_with_len}
use Rattle.std.specs.List.Sorted.{IsStrictlyIncreasing}

-- the ids of a table of so many rows: one for each row, rising
pub record AreIds (size : ℕ) (ids : List ℕ) : Type 0 where
  pub count : length ids ≡ size
  pub rising : IsStrictlyIncreasing ids

-- the id of a row, and the row of an id
abbrev pub id_of : List ℕ → ℕ → ℕ
id_of ids row = slice_index ids row

abbrev pub row_of : List ℕ → ℕ → ℕ
row_of ids id = unwrap_or (position (λ other. other == id) ids) (length ids)

-- in a dense table: row numbers times the stride
abbrev pub dense_ids : ℕ → ℕ → List ℕ
dense_ids size stride2 = map (λ row. row * 2 ^ stride2) (range_with_len 0 size)
