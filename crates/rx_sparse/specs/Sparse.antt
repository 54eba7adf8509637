-- The sparse form of a dense table: the same rows in the same order, each by its ranges, with offsets as ids.
use Rattle.std.specs.Prelude.{ℕ, ◌<◌, ◌-◌, ◌&&◌, List, [], length, map, filter, slice_index}
use Rattle.std.specs.Prelude.{Option, option_map, if◌then◌else◌}
use Rattle.std.specs.List.{range_with_len}
use Rattle.rx_spec.specs.Causes.{max_id}
use Rattle.rx_spec.specs.Ids.{id_of}
use Rattle.rx_wire.specs.declared.order.Order.{Order}
use Rattle.rx_expr.specs.declared.build_error.BuildErrorKind.{BuildErrorKind}
use Rattle.rx_dense.specs.declared.special.Special.{Special}
use Rattle.rx_dense.specs.Specials.{is_match_id}
use Rattle.rx_dense.specs.Layouts.{Layout as Dense, IsRowId, needles_of_id, patterns_at, place_in_range, universal_row}
use Rattle.rx_dense.specs.Builder.{renamed_id}
use Rattle.rx_dense.specs.States.{Row as DenseRow, begins_range, is_live, range_end, rows_from}
use Rattle.rx_sparse.specs.declared.ranges.ClassRange.{ClassRange}
use Rattle.rx_sparse.specs.Rows.{Row, offsets, rows_len}
use Rattle.rx_sparse.specs.Layouts.{Layout, Stored}

-- the special ids of a dense table are ids of rows
pub record AreSpecialRows (l : Dense) : Type 0 where
  pub max : IsRowId l l.special.max
  pub quit : IsRowId l l.special.quit
  pub min_match : IsRowId l l.special.min_match
  pub max_match : IsRowId l l.special.max_match
  pub min_accel : IsRowId l l.special.min_accel
  pub max_accel : IsRowId l l.special.max_accel
  pub min_start : IsRowId l l.special.min_start
  pub max_start : IsRowId l l.special.max_start

-- ---- rows by their ranges

-- the maximal range that begins at a class
abbrev pub range_of : List ℕ → ℕ → ClassRange
range_of next_ids first = record {
  first = first;
  last = range_end next_ids first - 1;
  next = slice_index next_ids first;
}

-- The maximal ranges of classes that lead to one row other than dead. Next ids are those of all classes, and last that
-- of the end mark.
abbrev pub ranges_of : List ℕ → List ClassRange
ranges_of next_ids =
    map (range_of next_ids)
    (filter (λ first. begins_range next_ids first && is_live next_ids first) (range_with_len 0 (length next_ids - 1)))

abbrev pub patterns_of_id : Dense → ℕ → List ℕ
patterns_of_id l id =
    if is_match_id l.special id then patterns_at l (place_in_range l l.special.min_match id) else []

-- a row of a dense table by its ranges, with dense ids
abbrev pub row_of_dense : Dense → DenseRow → Row
row_of_dense l row = record {
  ranges = ranges_of row.next_ids;
  eoi = slice_index row.next_ids (length row.next_ids - 1);
  patterns = patterns_of_id l row.id;
  needles = needles_of_id l row.id;
}

abbrev pub dense_rows : Dense → List Row
dense_rows l = map (row_of_dense l) (rows_from l 0)

-- ---- ids as offsets

-- how many bytes the rows have, and where each begins, whatever the ids
abbrev pub sparse_len : Dense → ℕ
sparse_len l = rows_len (dense_rows l)

abbrev pub offsets_of : Dense → List ℕ
offsets_of l = offsets (dense_rows l)

abbrev pub renamed_range : (ℕ → ℕ) → ClassRange → ClassRange
renamed_range renamed range = record range { next = renamed range.next }

abbrev pub renamed_row : (ℕ → ℕ) → Row → Row
renamed_row renamed row = record row { ranges = map (renamed_range renamed) row.ranges; eoi = renamed row.eoi }

abbrev pub renamed_special : (ℕ → ℕ) → Special → Special
renamed_special renamed s = record {
  max = renamed s.max;
  quit = renamed s.quit;
  min_match = renamed s.min_match;
  max_match = renamed s.max_match;
  min_accel = renamed s.min_accel;
  max_accel = renamed s.max_accel;
  min_start = renamed s.min_start;
  max_start = renamed s.max_start;
}

abbrev pub universal_offset : Dense → Option ℕ → Option ℕ
universal_offset l kept = option_map (id_of (offsets_of l)) (universal_row l kept)

-- ---- the table

abbrev pub sparse_of : Dense → Layout
sparse_of l =
    let renamed : ℕ → ℕ = renamed_id l (offsets_of l) in
    record {
      flags = l.flags;
      classes = l.classes;
      pattern_len = l.pattern_len;
      rows = map (renamed_row renamed) (dense_rows l);
      start_kind = l.start_kind;
      contexts = l.contexts;
      pattern_starts = l.pattern_starts;
      starts = map renamed l.starts;
      universal_unanchored = universal_offset l l.universal_unanchored;
      universal_anchored = universal_offset l l.universal_anchored;
      special = renamed_special renamed l.special;
      quit = l.quit;
    }

abbrev pub little_sparse_of : Dense → Stored
little_sparse_of l = record { layout = sparse_of l; order = Order.Little }

-- Why there is none: memory ran out, or the rows have more bytes than there are ids.
abbrev pub IsTooLong : (len : ℕ) → BuildErrorKind → Type 0
IsTooLong len BuildErrorKind.Memory = Unit {0}
IsTooLong len BuildErrorKind.TooManyStates = max_id < len
IsTooLong len _ = ⊥
