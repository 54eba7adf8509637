-- How the rows of a dense table are read and their ids renamed.
use Rattle.std.specs.Prelude.{ℕ, ◌≡◌, ◌<◌, ◌≤◌, ◌/◌, ◌^◌, List, length, slice_index}
use Rattle.rx_spec.specs.declared.Unit.{Unit as U}
use Rattle.rx_sparse.specs.declared.offsets.Offsets.{Offsets}
use Rattle.rx_sparse.specs.declared.rows.ReadRow.{ReadRow}
use Rattle.rx_spec.specs.Causes.{max_id}
use Rattle.rx_wire.specs.declared.order.Order.{Order}
use Rattle.rx_dense.specs.Layouts.{Layout as Dense, AreRows, row_count}
use Rattle.rx_dense.specs.Builder.{renamed_id}
use Rattle.rx_sparse.specs.declared.parts.Parts.{Parts}
use Rattle.rx_sparse.specs.Rows.{Row}
use Rattle.rx_sparse.specs.Sparse.{offsets_of, renamed_special, sparse_len, universal_offset}

-- the class that stands as a unit; the end mark has 0
abbrev pub class_of : U → ℕ
class_of (U.Byte class) = class
class_of U.Eoi = 0

-- the row that was read
abbrev pub read_row : ReadRow → Row
read_row r = record { ranges = r.ranges.now; eoi = r.eoi; patterns = r.patterns.now; needles = r.needles }

-- the offset of the row of a dense id
abbrev pub offset_in : Offsets → ℕ → ℕ
offset_in o id = slice_index o.ids.items (id / 2 ^ o.stride2)

-- each of some dense ids is that of a row with an offset
pub record HaveOffsets (o : Offsets) (ids : List ℕ) : Type 0 where
  pub exponent : o.stride2 ≤ 9
  pub within : (i : ℕ) → i < length ids → slice_index ids i / 2 ^ o.stride2 < length o.ids.items

-- The offsets are those of the rows of a dense table, and all are ids.
pub record AreOffsets (l : Dense) (o : Offsets) : Type 0 where
  pub ids : o.ids.items ≡ offsets_of l
  pub stride2 : o.stride2 ≡ l.stride2
  pub rows : AreRows l
  pub fits : sparse_len l ≤ max_id

-- the parts of the sparse table
abbrev pub parts_of : Dense → Parts
parts_of l = record {
  order = Order.Little;
  flags = l.flags;
  classes = l.classes;
  pattern_len = l.pattern_len;
  state_len = row_count l;
  start_kind = l.start_kind;
  contexts = l.contexts;
  start_pattern_len = l.pattern_starts;
  universal_unanchored = universal_offset l l.universal_unanchored;
  universal_anchored = universal_offset l l.universal_anchored;
  special = renamed_special (renamed_id l (offsets_of l)) l.special;
  quitset = l.quit;
}
