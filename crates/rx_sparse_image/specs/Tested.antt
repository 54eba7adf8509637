-- What holds of rows that passed their tests, and of a layout that can be read.
use Rattle.std.specs.Prelude.{◌≡◌, ◌≢◌, ℕ, ◌+◌, ◌<◌, ◌≤◌, ◌^◌, true, List, get_or, length, slice_index}
use Rattle.rx_spec.specs.Causes.{id_count, max_id}
use Rattle.rx_spec.specs.Ids.{id_of}
use Rattle.rx_base.specs.ByteClasses.{AreClasses}
use Rattle.rx_wire.specs.declared.order.Order.{Order}
use Rattle.rx_dense.specs.Specials.{is_accel_id, is_match_id}
use Rattle.rx_image_parts.specs.StartTables.{IsReadStartTable}
use Rattle.rx_image_parts.specs.SpecialIds.{are_special}
use Rattle.rx_sparse.specs.Layouts.{Layout}
use Rattle.rx_sparse.specs.Rows.{Row, is_some_list, next_ids, no_range, no_row, offsets, row_len, rows_len}
use Rattle.rx_sparse_image.specs.declared.rows.Bounds.{Bounds}
use Rattle.rx_sparse_image.specs.Walks.{may_be_special, may_have}
use Rattle.rx_sparse_image.specs.Closing.{is_closed}
use Rattle.rx_sparse_image.specs.Images.{start_table_of}

-- ---- rows

-- A row that begins at a place, held against bounds: its ranges rise over byte classes, it leads to ids within the
-- rows, tells patterns exactly where it is a match row, and has needles exactly where it is accelerated.
pub record IsTestedRow (b : Bounds) (at : ℕ) (row : Row) : Type 0 where
  pub special : may_be_special b at ≡ true
  pub few : length row.ranges ≤ 256
  pub ordered : (i : ℕ) → i < length row.ranges
      → (get_or row.ranges i no_range).first ≤ (get_or row.ranges i no_range).last
  pub within : (i : ℕ) → i < length row.ranges → (get_or row.ranges i no_range).last ≤ b.last_class
  pub rising : (i : ℕ) → i + 1 < length row.ranges
      → (get_or row.ranges i no_range).last < (get_or row.ranges (i + 1) no_range).first
  pub near : (i : ℕ) → i < length (next_ids row) → slice_index (next_ids row) i ≤ b.len
  pub next_ids : (i : ℕ) → i < length (next_ids row) → slice_index (next_ids row) i ≤ max_id
  pub matches : is_match_id b.special at ≡ is_some_list row.patterns
  pub few_patterns : length row.patterns < 2 ^ 32
  pub patterns : (i : ℕ) → i < length row.patterns → slice_index row.patterns i ≤ max_id
  pub known : (i : ℕ) → i < length row.patterns → slice_index row.patterns i < b.pattern_len
  pub needles : may_have (is_accel_id b.special at) (length row.needles) ≡ true
  pub eoi : row.eoi ≢ b.special.quit
  pub next : at + row_len row ≤ max_id

-- Each row passed its tests at its offset, and together they have as many bytes as was told.
pub record AreTestedRows (b : Bounds) (rows : List Row) : Type 0 where
  pub each : (i : ℕ) → i < length rows → IsTestedRow b (id_of (offsets rows) i) (get_or rows i no_row)
  pub len : rows_len rows ≡ b.len

-- ---- layouts

-- what the rows of a layout are held against; no test asks for the order
abbrev pub bounds_in : Layout → Bounds
bounds_in l = record {
  order = Order.Little;
  special = l.special;
  last_class = slice_index l.classes 255;
  pattern_len = l.pattern_len;
  len = rows_len l.rows;
}

-- what is true of a layout that was read, part by part
pub record IsRead (l : Layout) : Type 0 where
  pub few_rows : length l.rows < 2 ^ 32
  pub few_patterns : l.pattern_len ≤ id_count
  pub classes : AreClasses l.classes
  pub rows : AreTestedRows (bounds_in l) l.rows
  pub table : IsReadStartTable (start_table_of l)
  pub special : are_special l.special ≡ true
  pub within : l.special.max < rows_len l.rows
  pub quit : l.quit < 2 ^ 256

-- an image can be written of it, and read again
pub record IsWhole (l : Layout) : Type 0 where
  pub read : IsRead l
  pub closed : is_closed (length l.rows) l ≡ true
