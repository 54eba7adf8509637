-- Parts of an image that stay where they are.
use Rattle.std.specs.Prelude.{◌≡◌, ◌/◌, ◌%◌, ◌<◌, ◌^◌, true, nat_le, ◌∷◌, ◌++◌, length}
use Rattle.rx_wire.specs.declared.order.Order.{Order}
use Rattle.rx_image_parts.specs.StartTables.{IsReadStartTable, StartTable}
use Rattle.rx_image_parts.specs.SpecialIds.{are_special}
use Rattle.rx_sparse.specs.Layouts.{Layout}
use Rattle.rx_sparse.specs.Parts.{FitsBytes, stored}
use Rattle.rx_sparse.specs.Rows.{Row, ends_text, next_ids, row_of_parts, words_in, words_text}
use Rattle.rx_sparse_image.specs.declared.start_table.StartTable.{StartTable as Kept}
use Rattle.rx_sparse_image.specs.declared.row_parts.RowParts.{RowParts}
use Rattle.rx_sparse_image.specs.declared.read.Image.{Image}
use Rattle.rx_sparse_image.specs.RowBytes.{AreReadBytes}
use Rattle.rx_sparse_image.specs.Images.{Parts}

-- a start table whose ids are bytes
abbrev pub seen_table : Order → Kept → StartTable
seen_table order t = record {
  start_kind = t.start_kind;
  contexts = t.contexts;
  pattern_starts = t.pattern_starts;
  universal_unanchored = t.universal_unanchored;
  universal_anchored = t.universal_anchored;
  starts = words_in order (length t.starts.now / 4) t.starts.now;
}

-- ---- images

abbrev pub seen_image : Image → Parts
seen_image i = record {
  flags = i.parts.flags;
  order = i.parts.order;
  bytes = record {
    state_len = i.parts.state_len;
    pattern_len = i.parts.pattern_len;
    classes = i.parts.classes;
    rows = i.rows.now;
  };
  table = record {
    start_kind = i.parts.start_kind;
    contexts = i.parts.contexts;
    pattern_starts = i.parts.start_pattern_len;
    universal_unanchored = i.parts.universal_unanchored;
    universal_anchored = i.parts.universal_anchored;
    starts = words_in i.parts.order (length i.starts.now / 4) i.starts.now;
  };
  special = i.parts.special;
  quit = i.parts.quitset;
}

-- the layout, with as many rows as the image tells
abbrev pub image_layout : Image → Layout
image_layout i = (stored i.parts i.rows.now i.starts.now).layout

-- what is true of an image whose parts were read
pub record IsReadImage (i : Image) : Type 0 where
  pub bytes : AreReadBytes (seen_image i).bytes
  pub table : IsReadStartTable (seen_image i).table
  pub whole : length i.starts.now % 4 ≡ 0
  pub special : are_special i.parts.special ≡ true
  pub within : i.parts.special.max < length i.rows.now
  pub quit : i.parts.quitset < 2 ^ 256

-- ---- rows

-- the row of its parts
abbrev pub row_of : Order → RowParts → Row
row_of order p =
    row_of_parts order (nat_le 32768 p.head) p.ends.now p.next_ids.now (p.patterns.now ++ p.needles.now)

-- the parts are whole
pub record AreParts (order : Order) (p : RowParts) : Type 0 where
  pub ends : p.ends.now ≡ ends_text (row_of order p).ranges
  pub next_ids : p.next_ids.now ≡ words_text order (next_ids (row_of order p))
  pub needles : p.needles.now ≡ length (row_of order p).needles ∷ (row_of order p).needles
  pub fits : FitsBytes (row_of order p)
