-- What a table hands out one by one: its rows with what leads from them, and its start entries.
use Rattle.std.specs.Prelude.{ℕ, ◌≤◌, ◌<◌, ◌==◌, ◌+◌, ◌-◌, ◌*◌, ◌&&◌, ◌||◌, not, nat_le, Bool, if◌then◌else◌}
use Rattle.std.specs.Prelude.{Option, unwrap_or, List, [], ◌∷◌, ◌++◌, length, map, filter, take, take_while, drop}
use Rattle.std.specs.Prelude.{slice_index, slice_range}
use Rattle.std.specs.List.{flat_map, range_with_len}
use Rattle.rx_spec.specs.Causes.{max_id}
use Rattle.rx_spec.specs.Contexts.{all_starts}
use Rattle.rx_spec.specs.declared.Start.{Start}
use Rattle.rx_spec.specs.declared.Unit.{Unit}
use Rattle.rx_base.specs.ByteClasses.{alphabet_len}
use Rattle.rx_base.specs.Search.{mode_of}
use Rattle.rx_base.specs.declared.search.Anchored.{Anchored as Mode}
use Rattle.rx_dense.specs.Layouts.{Layout, row_count, start_id, stride}

-- ---- rows

-- A row: its id, and the ids of its next rows, one for each class and last that on the end mark.
pub record Row : Type 0 where
  pub id : ℕ
  pub next_ids : List ℕ

abbrev pub row_at : Layout → ℕ → Row
row_at l row = record {
  id = row * stride l;
  next_ids = take (alphabet_len l.classes) (drop (row * stride l) l.words);
}

-- the rows from one on
abbrev pub rows_from : Layout → ℕ → List Row
rows_from l row = map (row_at l) (range_with_len row (row_count l - row))

-- the next ids are ids, one for each of some classes and one for the end mark
pub record AreNextIds (next_ids : List ℕ) : Type 0 where
  pub some : 2 ≤ length next_ids
  pub few : length next_ids ≤ 257
  pub ids : (column : ℕ) → column < length next_ids → slice_index next_ids column ≤ max_id

-- ---- what leads from a row

-- the unit of a column: its class as a byte, and in the last column the end mark
abbrev pub column_unit : (columns column : ℕ) → Unit
column_unit columns column = if column + 1 == columns then Unit.Eoi else Unit.Byte column

-- the next rows from a column on
abbrev pub transitions_from : List ℕ → ℕ → List (Unit × ℕ)
transitions_from next_ids column =
    map (λ c. (column_unit (length next_ids) c, slice_index next_ids c))
    (range_with_len column (length next_ids - column))

-- ---- ranges of classes that lead to one row

-- whether a class is the first of a range: the class before leads elsewhere
abbrev pub begins_range : List ℕ → ℕ → Bool
begins_range next_ids class = (class == 0) || not (slice_index next_ids (class - 1) == slice_index next_ids class)

-- the column behind the range of a first class: of the classes from there on, it has those up to the first that leads
-- elsewhere
abbrev pub range_end : List ℕ → ℕ → ℕ
range_end next_ids first =
    let classes : List ℕ = slice_range next_ids first (length next_ids - 1) in
    first + length (take_while (λ id. id == slice_index next_ids first) classes)

-- the first and the last class of a range, and where they lead
abbrev pub range_of : List ℕ → ℕ → Unit × Unit × ℕ
range_of next_ids first = (Unit.Byte first, Unit.Byte (range_end next_ids first - 1), slice_index next_ids first)

-- whether a column doesn't lead to dead
abbrev pub is_live : List ℕ → ℕ → Bool
is_live next_ids column = not (slice_index next_ids column == 0)

-- the ranges from a class on that don't lead to dead
abbrev pub ranges_from : List ℕ → ℕ → List (Unit × Unit × ℕ)
ranges_from next_ids class =
    map (range_of next_ids)
    (filter (λ first. begins_range next_ids first && is_live next_ids first)
    (range_with_len class (length next_ids - 1 - class)))

-- the end mark, a range of its own, where it isn't passed yet and doesn't lead to dead
abbrev pub eoi_range_from : List ℕ → ℕ → List (Unit × Unit × ℕ)
eoi_range_from next_ids column =
    let eoi : ℕ = length next_ids - 1 in
    if nat_le column eoi && is_live next_ids eoi then (Unit.Eoi, Unit.Eoi, slice_index next_ids eoi) ∷ [] else []

-- the maximal ranges from a column on
abbrev pub sparse_transitions_from : List ℕ → ℕ → List (Unit × Unit × ℕ)
sparse_transitions_from next_ids column = ranges_from next_ids column ++ eoi_range_from next_ids column

-- ---- start entries

-- the modes that have start entries: without an anchor, with one, and for each pattern that has starts of its own
abbrev pub start_modes : Option ℕ → List Mode
start_modes pattern_starts =
    Mode.No ∷ Mode.Yes ∷ map (λ k. Mode.Pattern k) (range_with_len 0 (unwrap_or pattern_starts 0))

-- the start entries in order, each with its mode and its context
abbrev pub starts_of : Layout → List (ℕ × Mode × Start)
starts_of l =
    flat_map (λ mode. map (λ start. (start_id l (mode_of mode) start, mode, start)) all_starts)
    (start_modes l.pattern_starts)
