-- A sparse table in memory: a record of lists and numbers, the same for either byte order, and the table of the
-- definitions that it means. An image of a table spells the same record.
use Rattle.std.specs.Prelude.{ℕ, ◌≡◌, ◌<◌, ◌≤◌, ◌==◌, ◌+◌, ◌*◌, nat_lt, nat_le}
use Rattle.std.specs.Prelude.{if◌then◌else◌, Option, None, IfSome, option_map, List, length, slice_index}
use Rattle.std.specs.Prelude.{get_or}
use Rattle.rx_spec.specs.Causes.{max_id}
use Rattle.rx_spec.specs.Ids.{id_of, row_of}
use Rattle.rx_spec.specs.Machines.{Label, Machine, Settings}
use Rattle.rx_spec.specs.Queries.{Anchored}
use Rattle.rx_spec.specs.Tables.{Table}
use Rattle.rx_spec.specs.declared.Start.{Start}
use Rattle.rx_spec.specs.declared.StartKind.{StartKind}
use Rattle.rx_base.specs.ByteClasses.{AreClasses}
use Rattle.rx_search.specs.Starts.{IsId}
use Rattle.rx_wire.specs.declared.order.Order.{Order}
use Rattle.rx_dense.specs.declared.flags.Flags.{Flags}
use Rattle.rx_dense.specs.declared.special.Special.{Special}
use Rattle.rx_dense.specs.Specials.{is_quit_id, is_match_id, is_accel_id, is_start_id}
use Rattle.rx_dense.specs.Layouts.{context_number, mode_place, start_entries}
use Rattle.rx_sparse.specs.declared.ranges.ClassRange.{ClassRange}
use Rattle.rx_sparse.specs.Rows.{Row, is_some_list, next_among, no_range, no_row, offsets, rows_len}

pub record Layout : Type 0 where
  pub flags : Flags
  -- the class of each byte, and how many patterns there are
  pub classes : List ℕ
  pub pattern_len : ℕ
  pub rows : List Row
  -- for which modes there are start entries, the start context of each byte, and the ids of the start rows: six
  -- without an anchor, six with one, and six for each pattern that has starts of its own
  pub start_kind : StartKind
  pub contexts : List Start
  pub pattern_starts : Option ℕ
  pub starts : List ℕ
  -- one start row for all contexts
  pub universal_unanchored : Option ℕ
  pub universal_anchored : Option ℕ
  pub special : Special
  pub quit : ℕ

-- a table as it is kept: its layout, and the order of the bytes of its rows and start entries
pub record Stored : Type 0 where
  pub layout : Layout
  pub order : Order

-- ---- rows and their ids

abbrev pub row_count : Layout → ℕ
row_count l = length l.rows

abbrev pub ids_of : Layout → List ℕ
ids_of l = offsets l.rows

abbrev pub row_at : Layout → ℕ → Row
row_at l row = get_or l.rows row no_row

-- ---- the table

-- where a unit leads from a row
abbrev pub next_id : List ℕ → Row → ℕ → ℕ
next_id classes row unit = if unit == 256 then row.eoi else next_among row.ranges (slice_index classes unit)

-- The start entry of a mode and a context. A pattern without starts of its own starts at dead.
abbrev pub start_id : Layout → Anchored → Start → ℕ
start_id l mode start =
    if nat_lt (mode_place mode) (length l.starts)
    then slice_index l.starts (mode_place mode + context_number start) else 0

abbrev pub label_of_row : Special → (id : ℕ) → Row → Label
label_of_row special id row =
    if is_match_id special id then Label.Matches row.patterns
    else (if is_quit_id special id then Label.Quits else Label.Plain)

-- the universal start of a mode
abbrev pub universal_id : Layout → Anchored → Option ℕ
universal_id l Anchored.No = l.universal_unanchored
universal_id l Anchored.Yes = l.universal_anchored
universal_id l (Anchored.Pattern k) = None

abbrev pub machine_of : Layout → Machine ℕ
machine_of l = record {
  entry = λ mode start. row_of (ids_of l) (start_id l mode start);
  next = λ row unit. row_of (ids_of l) (next_id l.classes (row_at l row) unit);
  label = λ row. label_of_row l.special (id_of (ids_of l) row) (row_at l row);
  is_dead = λ row. row == 0;
}

abbrev pub settings_of : Layout → Settings
settings_of l = record {
  start_kind = l.start_kind;
  pattern_starts = l.pattern_starts;
  start_of_byte = λ byte. get_or l.contexts byte Start.NonWordByte;
  quit = l.quit;
}

abbrev pub table_of : Layout → Table
table_of l = record {
  size = row_count l;
  machine = machine_of l;
  settings = settings_of l;
  has_empty = l.flags.has_empty;
  is_utf8 = l.flags.is_utf8;
  is_always_start_anchored = l.flags.is_always_start_anchored;
  pattern_len = l.pattern_len;
  is_accelerated = λ row. is_accel_id l.special (id_of (ids_of l) row);
  needles = λ row. (row_at l row).needles;
  is_start = λ row. is_start_id l.special (id_of (ids_of l) row);
  is_special = λ row. nat_le (id_of (ids_of l) row) l.special.max;
  universal_unanchored = option_map (row_of (ids_of l)) l.universal_unanchored;
  universal_anchored = option_map (row_of (ids_of l)) l.universal_anchored;
}

-- ---- how much it keeps

-- in bytes: those of the rows, and four for each start entry
abbrev pub memory_usage : Layout → ℕ
memory_usage l = rows_len l.rows + 4 * length l.starts

-- ---- what is true of every sparse table

-- Ranges rise over byte classes and don't overlap.
pub record AreRanges (classes : List ℕ) (ranges : List ClassRange) : Type 0 where
  pub few : length ranges ≤ 256
  pub ordered : (i : ℕ) → i < length ranges → (get_or ranges i no_range).first ≤ (get_or ranges i no_range).last
  pub within : (i : ℕ) → i < length ranges → (get_or ranges i no_range).last ≤ slice_index classes 255
  pub rising : (i : ℕ) → i + 1 < length ranges
      → (get_or ranges i no_range).last < (get_or ranges (i + 1) no_range).first

-- Each range and the end mark lead to a row. Exactly the match rows have patterns, as many as a word can count.
pub record IsRow (l : Layout) (row : ℕ) : Type 0 where
  pub ranges : AreRanges l.classes (row_at l row).ranges
  pub nexts : (i : ℕ) → i < length (row_at l row).ranges
      → IsId (ids_of l) (get_or (row_at l row).ranges i no_range).next
  pub eoi : IsId (ids_of l) (row_at l row).eoi
  pub matches : is_match_id l.special (id_of (ids_of l) row) ≡ is_some_list (row_at l row).patterns
  pub patterns : (i : ℕ) → i < length (row_at l row).patterns → slice_index (row_at l row).patterns i ≤ max_id
  pub needles : length (row_at l row).needles ≤ 3

-- There are rows, and all of them together have no more bytes than there are ids.
pub record AreRows (l : Layout) : Type 0 where
  pub classes : AreClasses l.classes
  pub two : 2 ≤ row_count l
  pub few : rows_len l.rows ≤ max_id
  pub rows : (row : ℕ) → row < row_count l → IsRow l row

-- There are start entries for both modes and for the patterns that have starts of their own, as many as have ids.
pub record AreStarts (l : Layout) : Type 0 where
  pub contexts : length l.contexts ≡ 256
  pub count : length l.starts ≡ start_entries l.pattern_starts
  pub small : length l.starts ≤ 12 + 6 * (max_id + 1)
  pub start_ids : (k : ℕ) → k < length l.starts → IsId (ids_of l) (slice_index l.starts k)
  pub universal_unanchored : IfSome l.universal_unanchored (IsId (ids_of l))
  pub universal_anchored : IfSome l.universal_anchored (IsId (ids_of l))

pub record IsShaped (l : Layout) : Type 0 where
  pub rows : AreRows l
  pub starts : AreStarts l
  pub few_patterns : l.pattern_len ≤ max_id + 1
