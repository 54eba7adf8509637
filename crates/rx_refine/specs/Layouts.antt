-- Tables of next rows in memory, and their columns.
use Rattle.std.specs.Prelude.{ℕ, ◌≡◌, ◌<◌, ◌≤◌, ◌+◌, ◌*◌, ◌/◌, ◌^◌, List, [], length, slice_index, slice_index_or}

-- Rows begin so many entries apart. Each has an entry for each unit, and may have more behind these. An entry is
-- the number of a row, shifted left by so many bits.
pub record Layout : Type 0 where
  pub rows : ℕ
  pub units : ℕ
  pub stride : ℕ
  pub shift : ℕ
  pub entries : List ℕ

-- the row to which a unit leads from a row
abbrev pub next_at : Layout → ℕ → ℕ → ℕ
next_at t row unit = slice_index t.entries (row * t.stride + unit) / 2 ^ t.shift

-- each unit leads from each row to a row, and there are not too many rows and entries
pub record IsLayout (t : Layout) : Type 0 where
  pub few : t.rows ≤ 2 ^ 31
  pub fits : length t.entries < 2 ^ 63
  pub units : t.units ≤ t.stride
  pub shift : t.shift < 32
  pub entries : t.rows * t.stride ≤ length t.entries
  pub nexts : (row unit : ℕ) → row < t.rows → unit < t.units → next_at t row unit < t.rows

-- for each unit the rows to which it leads from the first rows
pub record AreColumns (t : Layout) (rows : ℕ) (columns : List (List ℕ)) : Type 0 where
  pub count : length columns ≡ t.units
  pub lengths : (unit : ℕ) → unit < t.units → length (slice_index_or columns unit []) ≡ rows
  pub cells : (row unit : ℕ) → row < rows → unit < t.units
      → slice_index (slice_index_or columns unit []) row ≡ next_at t row unit
