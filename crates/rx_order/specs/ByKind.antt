-- Rows in the order of their kinds, which are numbers below 8.
use Rattle.std.specs.Prelude.{ℕ, ◌≡◌, ◌<◌, ◌≤◌, ◌-◌, ◌*◌, ◌==◌, Bool, true, false, List, length, map, slice_index}
use Rattle.std.specs.Prelude.{slice_index_or}
use Rattle.std.specs.List.{list_any, range_with_len}
use Rattle.std.specs.List.Sorted.{IsPermutation}
use Rattle.rx_spec.specs.Tables.{Table, is_match, leaving}
use Rattle.rx_search.specs.Labels.{patterns_of}
use Rattle.rx_dense.specs.Layouts.{Layout, AreRows, row_count, stride, table_of}
use Rattle.rx_order.specs.RowOrder.{are_needles, is_start_row, kind_by}

-- the kinds of a table's rows, by which of them are match rows and which are accelerated
pub record AreKinds (l : Layout) (matches accelerated : ℕ → Bool) (kinds : List ℕ) : Type 0 where
  pub count : length kinds ≡ row_count l
  pub kinds_are : (row : ℕ) → row < row_count l
      → slice_index kinds row ≡ kind_by row (matches row) (accelerated row) (is_start_row l row)

-- of each row, whether some search starts there
pub record AreStartRows (l : Layout) (starts : List Bool) : Type 0 where
  pub count : length starts ≡ row_count l
  pub starts_are : (row : ℕ) → row < row_count l
      → slice_index_or starts row false ≡ list_any (λ id. id == row * stride l) l.starts

-- One list has the kind of each row, the other the row at each place. The rows of a kind end before the place that a
-- third list has for it.
pub record AreByKind (kinds rows ends : List ℕ) : Type 0 where
  pub permutation : IsPermutation (range_with_len 0 (length kinds)) rows
  pub count : length ends ≡ 8
  pub before : (place kind : ℕ) → kind < 8 → place < slice_index ends kind
      → (place < length kinds) × (slice_index kinds (slice_index rows place) ≤ kind)
  pub behind : (place kind : ℕ) → place < length kinds → kind < 8 → slice_index ends kind ≤ place
      → kind < slice_index kinds (slice_index rows place)

-- within a kind the ranks of the rows don't fall from place to place
abbrev pub AreRanked : (kinds ranks rows : List ℕ) → Type 0
AreRanked kinds ranks rows =
    (x y : ℕ) → x ≤ y → y < length rows
    → slice_index kinds (slice_index rows x) ≡ slice_index kinds (slice_index rows y)
    → slice_index ranks (slice_index rows x) ≤ slice_index ranks (slice_index rows y)

-- The bytes that lead a row elsewhere. The word stands closed, since it goes over all bytes.
unfoldable pub leaving_of : Table → ℕ → List ℕ
leaving_of t row = leaving t row

-- The patterns of the match rows, in the order in which these are to lie: they are the rows of the kinds 2 and 3.
abbrev pub lists_in : Layout → (rows ends : List ℕ) → List (List ℕ)
lists_in l rows ends =
    map (λ place. patterns_of (table_of l) (slice_index rows place))
    (range_with_len (slice_index ends 1) (slice_index ends 3 - slice_index ends 1))

-- Rows of a table, of which those at the places of the kinds 2 and 3 are match rows.
pub record HaveMatches (l : Layout) (rows ends : List ℕ) : Type 0 where
  pub are_rows : AreRows l
  pub few : length rows ≤ row_count l
  pub below : (place : ℕ) → place < length rows → slice_index rows place < row_count l
  pub from : slice_index ends 1 ≤ slice_index ends 3
  pub to : slice_index ends 3 ≤ length rows
  pub matches : (place : ℕ) → slice_index ends 1 ≤ place → place < slice_index ends 3
      → is_match (table_of l) (slice_index rows place) ≡ true

-- Rows of a table in the order of their kinds, with those accelerated from which a search may skip.
pub record AreSkippable (l : Layout) (rows ends : List ℕ) : Type 0 where
  pub kinds : List ℕ
  pub kinds_are : AreKinds l (is_match (table_of l)) (λ row. are_needles (leaving_of (table_of l) row)) kinds
  pub by_kind : AreByKind kinds rows ends
  pub are_rows : AreRows l
