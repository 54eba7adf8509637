-- Sparse images: `text` has the bytes of a layout, `reads` the layout that bytes spell, or the first test that they
-- fail.
use Rattle.std.specs.Prelude.{ℕ, ◌+◌, ◌-◌, ◌*◌, if◌then◌else◌, List, ◌++◌, length, slice_index, codes}
use Rattle.std.specs.Prelude.{Result, Ok, Err}
use Rattle.std.specs.Int.{w32}
use Rattle.rx_wire.specs.declared.order.Order.{Order}
use Rattle.rx_wire.specs.Fields.{field}
use Rattle.rx_wire.specs.Kinds.{Kind, ◌>>=◌}
use Rattle.rx_dense.specs.declared.flags.Flags.{Flags}
use Rattle.rx_dense.specs.declared.special.Special.{Special}
use Rattle.rx_image_parts.specs.Heads.{head_at, head_text}
use Rattle.rx_image_parts.specs.StartTables.{StartTable, start_table_at, start_table_text}
use Rattle.rx_image_parts.specs.QuitBytes.{quit_at, quit_text}
use Rattle.rx_image_parts.specs.SpecialIds.{special_at, special_text}
use Rattle.rx_sparse.specs.Layouts.{Layout, Stored}
use Rattle.rx_sparse.specs.Rows.{Row, rows_len, rows_text}
use Rattle.rx_sparse_image.specs.RowBytes.{RowBytes, row_bytes_at}
use Rattle.rx_sparse_image.specs.declared.rows.Bounds.{Bounds}
use Rattle.rx_sparse_image.specs.Walks.{rows_at}
use Rattle.rx_sparse_image.specs.Closing.{is_closed}

abbrev pub sparse_label : List ℕ
sparse_label = codes "rust-regex-automata-dfa-sparse"

-- ---- writing

-- how many rows and patterns there are, the class of each byte, how many bytes the rows have, and these
abbrev pub row_bytes_text : Order → Layout → List ℕ
row_bytes_text order l =
    field order w32 (length l.rows)
    ++ (field order w32 l.pattern_len
    ++ (l.classes ++ (field order w32 (rows_len l.rows) ++ rows_text order l.rows)))

abbrev pub start_table_of : Layout → StartTable
start_table_of l = record {
  start_kind = l.start_kind;
  contexts = l.contexts;
  pattern_starts = l.pattern_starts;
  universal_unanchored = l.universal_unanchored;
  universal_anchored = l.universal_anchored;
  starts = l.starts;
}

-- the bytes of a layout, numbers in an order
unfoldable pub text : Order → Layout → List ℕ
text order l =
    head_text order sparse_label l.flags
    ++ (row_bytes_text order l
    ++ (start_table_text order (start_table_of l) ++ (special_text order l.special ++ quit_text order l.quit)))

-- how many bytes these are
abbrev pub image_len : Layout → ℕ
image_len l = 656 + rows_len l.rows + 4 * length l.starts

-- ---- reading

-- the parts of an image, with the bytes of its rows
pub record Parts : Type 0 where
  pub flags : Flags
  pub order : Order
  pub bytes : RowBytes
  pub table : StartTable
  pub special : Special
  pub quit : ℕ

abbrev pub parts_of : Flags → Order → RowBytes → StartTable → Special → ℕ → Parts
parts_of flags order bytes table special quit = record {
  flags = flags;
  order = order;
  bytes = bytes;
  table = table;
  special = special;
  quit = quit;
}

-- the parts, and the bytes after them
unfoldable pub parts_at : List ℕ → Result (Parts × List ℕ) Kind
parts_at bytes = do
  head ← head_at sparse_label bytes
  rows ← row_bytes_at head.0.1 head.1
  table ← start_table_at head.0.1 rows.1
  special ← special_at head.0.1 (length rows.0.rows) table.1
  quit ← quit_at head.0.1 special.1
  Ok (parts_of head.0.0 head.0.1 rows.0 table.0 special.0 quit.0, quit.1)

abbrev pub bounds_of : Parts → Bounds
bounds_of p = record {
  order = p.order;
  special = p.special;
  last_class = slice_index p.bytes.classes 255;
  pattern_len = p.bytes.pattern_len;
  len = length p.bytes.rows;
}

-- the layout of parts and of the rows that their bytes spell
abbrev pub layout_of : Parts → List Row → Layout
layout_of p rows = record {
  flags = p.flags;
  classes = p.bytes.classes;
  pattern_len = p.bytes.pattern_len;
  rows = rows;
  start_kind = p.table.start_kind;
  contexts = p.table.contexts;
  pattern_starts = p.table.pattern_starts;
  starts = p.table.starts;
  universal_unanchored = p.table.universal_unanchored;
  universal_anchored = p.table.universal_anchored;
  special = p.special;
  quit = p.quit;
}

abbrev pub stored_of : Parts → List Row → Stored
stored_of p rows = record { layout = layout_of p rows; order = p.order }

-- The layout with the order of the image, and how many bytes the image takes. The rows are tested after all other
-- parts, and what must hold of all parts together last.
unfoldable pub reads : List ℕ → Result (Stored × ℕ) Kind
reads bytes = do
  parts ← parts_at bytes
  rows ← rows_at (bounds_of parts.0) parts.0.bytes.rows
  if is_closed parts.0.bytes.state_len (layout_of parts.0 rows)
      then Ok (stored_of parts.0 rows, length bytes - length parts.1) else Err Kind.Generic
