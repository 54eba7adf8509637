-- A table as a renaming sees it: rows of ids, and start entries.
use Rattle.std.specs.Prelude.{ℕ, ◌≡◌, ◌<◌, ◌≤◌, ◌*◌, ◌/◌, ◌%◌, ◌^◌, List, length, map, All}
use Rattle.std.specs.List.{swap}
use Rattle.rx_spec.specs.Causes.{max_id}

-- For each row the ids of the rows to which it leads, and the ids of the rows in which searches start. The id of a
-- row is its number times a power of two, whose exponent this is.
pub record Transitions : Type 0 where
  pub rows : List (List ℕ)
  pub starts : List ℕ
  pub stride2 : ℕ

-- the number of the row that has an id
abbrev pub row_of : Transitions → ℕ → ℕ
row_of t id = id / 2 ^ t.stride2

-- whether a number is the id of a row
pub record IsRowId (t : Transitions) (id : ℕ) : Type 0 where
  pub whole : id % 2 ^ t.stride2 ≡ 0
  pub below : row_of t id < length t.rows

-- Each row has an id, and each entry is the id of a row.
pub record AreRows (t : Transitions) : Type 0 where
  pub exponent : t.stride2 ≤ 30
  pub ids : (row : ℕ) → row < length t.rows → row * 2 ^ t.stride2 ≤ max_id
  pub entries : All (All (IsRowId t)) t.rows
  pub starts : All (IsRowId t) t.starts

-- two rows in each other's place; entries that lead to them stay as they are
abbrev pub with_swapped : Transitions → (first second : ℕ) → Transitions
with_swapped t first second = record t { rows = swap t.rows first second }

-- a new id for each entry and each start entry
abbrev pub with_ids : (ℕ → ℕ) → Transitions → Transitions
with_ids new_id t = record t { rows = map (map new_id) t.rows; starts = map new_id t.starts }
