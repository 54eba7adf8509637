-- Dense images: `text` has the bytes of a layout, `reads` the layout that bytes spell, or the first test that they
-- fail.
use Rattle.std.specs.Prelude.{◌≡◌, ℕ, ◌+◌, ◌-◌, ◌*◌, true, if◌then◌else◌, List, ◌++◌, length, Result, Ok, Err}
use Rattle.rx_wire.specs.declared.order.Order.{Order}
use Rattle.rx_wire.specs.Kinds.{Kind, ◌>>=◌}
use Rattle.rx_dense.specs.declared.flags.Flags.{Flags}
use Rattle.rx_dense.specs.Layouts.{Layout}
use Rattle.rx_image_parts.specs.Heads.{head_text}
use Rattle.rx_dense_image.specs.Heads.{dense_head_at, dense_label}
use Rattle.rx_dense_image.specs.Rows.{AreReadRows, Rows, rows_at, rows_of, rows_text}
use Rattle.rx_image_parts.specs.StartTables.{IsReadStartTable, StartTable, start_table_at, start_table_text}
use Rattle.rx_dense_image.specs.PatternLists.{AreReadLists, PatternLists, pattern_lists_at, pattern_lists_text}
use Rattle.rx_dense_image.specs.Marks.{AreReadMarks, Marks, marks_at, marks_text}
use Rattle.rx_dense_image.specs.Closing.{is_closed}

-- ---- the parts of a layout

abbrev pub start_table_of : Layout → StartTable
start_table_of l = record {
  start_kind = l.start_kind;
  contexts = l.contexts;
  pattern_starts = l.pattern_starts;
  universal_unanchored = l.universal_unanchored;
  universal_anchored = l.universal_anchored;
  starts = l.starts;
}

abbrev pub pattern_lists_of : Layout → PatternLists
pattern_lists_of l = record { slices = l.slices; pattern_len = l.pattern_len; pattern_ids = l.pattern_ids }

abbrev pub marks_of : Layout → Marks
marks_of l = record { special = l.special; accels = l.accels; quit = l.quit }

abbrev pub joined : Flags → Rows → StartTable → PatternLists → Marks → Layout
joined flags rows table lists marks = record {
  flags = flags;
  classes = rows.classes;
  stride2 = rows.stride2;
  words = rows.words;
  start_kind = table.start_kind;
  contexts = table.contexts;
  pattern_starts = table.pattern_starts;
  starts = table.starts;
  universal_unanchored = table.universal_unanchored;
  universal_anchored = table.universal_anchored;
  slices = lists.slices;
  pattern_ids = lists.pattern_ids;
  pattern_len = lists.pattern_len;
  special = marks.special;
  accels = marks.accels;
  quit = marks.quit;
}

-- ---- writing

-- the bytes of a layout, numbers in an order
unfoldable pub text : Order → Layout → List ℕ
text order l =
    head_text order dense_label l.flags
    ++ (rows_text order (rows_of l)
    ++ (start_table_text order (start_table_of l)
    ++ (pattern_lists_text order (pattern_lists_of l) ++ marks_text order (marks_of l))))

-- how many bytes these are
abbrev pub image_len : Layout → ℕ
image_len l =
    668 + 4 * (length l.words + length l.starts + (length l.slices + length l.pattern_ids)) + 8 * length l.accels

-- ---- reading

-- the parts, and the bytes after them
unfoldable pub parts_at : List ℕ → Result (Layout × List ℕ) Kind
parts_at bytes = do
  head ← dense_head_at bytes
  rows ← rows_at head.0.1 head.1
  table ← start_table_at head.0.1 rows.1
  lists ← pattern_lists_at head.0.1 table.1
  marks ← marks_at head.0.1 (length rows.0.words) lists.1
  Ok (joined head.0.0 rows.0 table.0 lists.0 marks.0, marks.1)

-- The layout, and how many bytes it takes with the NULs before it. What must hold of all parts together is tested
-- last.
unfoldable pub reads : List ℕ → Result (Layout × ℕ) Kind
reads bytes = do
  parts ← parts_at bytes
  if is_closed parts.0 then Ok (parts.0, length bytes - length parts.1) else Err Kind.Generic

-- what is true of a layout that was read, part by part
pub record IsRead (l : Layout) : Type 0 where
  pub rows : AreReadRows (rows_of l)
  pub table : IsReadStartTable (start_table_of l)
  pub lists : AreReadLists (pattern_lists_of l)
  pub marks : AreReadMarks (length l.words) (marks_of l)

-- an image can be written of it, and read again
pub record IsWhole (l : Layout) : Type 0 where
  pub read : IsRead l
  pub closed : is_closed l ≡ true
