-- The indices of rows in a list.
use Rattle.std.specs.Prelude.{ℕ, ◌≡◌, ◌<◌, ◌≤◌, Bool, true, false, Some, List, length, slice_get, slice_index_or}

-- what stands for no place: no list of rows is as long
abbrev pub no_place : ℕ
no_place = 4294967295

-- A row's place is where it stands in the list; that of a row that doesn't stand there is past its end.
pub record ArePlaces (rows places : List ℕ) : Type 0 where
  pub is_there : (q : ℕ) → slice_index_or places q no_place < length rows
      → slice_get rows (slice_index_or places q no_place) ≡ Some q
  pub is_place : (place q : ℕ) → slice_get rows place ≡ Some q → slice_index_or places q no_place ≡ place

-- so many rows pass a test at the front of a list, and the next one doesn't
pub record AreMetTo (met : ℕ → Bool) (rows : List ℕ) (len : ℕ) : Type 0 where
  pub within : len ≤ length rows
  pub before : (place q : ℕ) → place < len → slice_get rows place ≡ Some q → met q ≡ true
  pub next : (q : ℕ) → slice_get rows len ≡ Some q → met q ≡ false
