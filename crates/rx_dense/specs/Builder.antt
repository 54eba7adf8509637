-- What the calls of a builder make of a table.
use Rattle.std.specs.Prelude.{ℕ, ◌≡◌, ◌<◌, ◌≤◌, ◌⊎◌, ◌+◌, ◌*◌, ◌/◌, ◌%◌, ◌^◌, ◌==◌, nat_lt, Bool}
use Rattle.std.specs.Prelude.{if◌then◌else◌, Option, Some, None, List, [], ◌∷◌, ◌++◌, length, map, slice_index, take}
use Rattle.std.specs.Prelude.{slice_set, replicate, Vec}
use Rattle.std.specs.List.{range_with_len, concat, list_all}
use Rattle.std.specs.BTreeMap.{BTreeMap, values}
use Rattle.std.specs.Vec.{vec_items}
use Rattle.rx_spec.specs.Classes.{stride2_of}
use Rattle.rx_spec.specs.Contexts.{all_starts, start_of_byte}
use Rattle.rx_spec.specs.Queries.{Anchored}
use Rattle.rx_spec.specs.Starts.{has_anchored, has_unanchored}
use Rattle.rx_spec.specs.Tables.{Table}
use Rattle.rx_spec.specs.declared.Start.{Start}
use Rattle.rx_spec.specs.declared.StartKind.{StartKind}
use Rattle.rx_base.specs.ByteClasses.{alphabet_len}
use Rattle.rx_dense.specs.declared.flags.Flags.{Flags}
use Rattle.rx_dense.specs.Specials.{no_rows}
use Rattle.rx_dense.specs.Layouts.{Layout, column, context_number, ids_of, machine_of, mode_place, row_count}
use Rattle.rx_dense.specs.Layouts.{start_entries, start_id, stride}

-- what a table is begun with
pub record Beginning : Type 0 where
  pub classes : List ℕ
  pub pattern_len : ℕ
  pub start_kind : StartKind
  pub line_terminator : ℕ
  pub pattern_starts : Bool
  pub quit : ℕ
  pub flags : Flags

abbrev pub contexts_of : ℕ → List Start
contexts_of line_terminator = map (start_of_byte line_terminator) (range_with_len 0 256)

-- The dead row and the quit row, both of which lead to dead, and start entries that are dead.
abbrev pub initial : Beginning → Layout
initial b =
    let pattern_starts = if b.pattern_starts then Some b.pattern_len else None in
    record {
      flags = b.flags;
      classes = b.classes;
      stride2 = stride2_of (alphabet_len b.classes);
      words = replicate (2 * 2 ^ stride2_of (alphabet_len b.classes)) 0;
      start_kind = b.start_kind;
      contexts = contexts_of b.line_terminator;
      pattern_starts = pattern_starts;
      starts = replicate (start_entries pattern_starts) 0;
      universal_unanchored = None;
      universal_anchored = None;
      slices = [];
      pattern_ids = [];
      pattern_len = b.pattern_len;
      special = no_rows;
      accels = [];
      quit = b.quit;
    }

-- a last row more, which leads to dead
abbrev pub with_row : Layout → Layout
with_row l = record l { words = l.words ++ replicate (stride l) 0 }

-- another next row on a unit, and so on all units of its column
abbrev pub with_next : Layout → (id unit next : ℕ) → Layout
with_next l id unit next = record l { words = slice_set l.words (id + column l unit) next }

-- another start row of a mode and a context
abbrev pub with_start : Layout → Anchored → Start → ℕ → Layout
with_start l mode start id = record l { starts = slice_set l.starts (mode_place mode + context_number start) id }

-- the start that all six contexts have, where no two of them have different ones
abbrev pub common_start : (Start → ℕ) → Option ℕ
common_start entry =
    if list_all (λ start. entry start == entry Start.NonWordByte) all_starts then Some (entry Start.NonWordByte)
    else None

-- a universal start for each mode that the start kind has and whose start entries are one row
abbrev pub with_universal_starts : Layout → Layout
with_universal_starts l = record l {
  universal_unanchored = if has_unanchored l.start_kind then common_start (start_id l Anchored.No) else None;
  universal_anchored = if has_anchored l.start_kind then common_start (start_id l Anchored.Yes) else None;
}

-- the same, of rows
pub record HasUniversalStarts (t : Table) : Type 0 where
  pub unanchored : t.universal_unanchored
      ≡ (if has_unanchored t.settings.start_kind then common_start (t.machine.entry Anchored.No) else None)
  pub anchored : t.universal_anchored
      ≡ (if has_anchored t.settings.start_kind then common_start (t.machine.entry Anchored.Yes) else None)

-- ---- rows that change places, are renamed, or are cut off

abbrev pub IsOutside : (row width place : ℕ) → Type 0
IsOutside row width place = (place < row) ⊎ (row + width ≤ place)

-- two rows of so many words have changed places, and all other words have stayed
pub record AreSwapped (width : ℕ) (old new : List ℕ) (first second : ℕ) : Type 0 where
  pub count : length new ≡ length old
  pub at_first : (c : ℕ) → c < width → slice_index new (first + c) ≡ slice_index old (second + c)
  pub at_second : (c : ℕ) → c < width → slice_index new (second + c) ≡ slice_index old (first + c)
  pub others : (k : ℕ) → IsOutside first width k → IsOutside second width k → slice_index new k ≡ slice_index old k

-- a row of so many words is as another one, and all other words have stayed
pub record IsCopied (width : ℕ) (old new : List ℕ) (from to : ℕ) : Type 0 where
  pub count : length new ≡ length old
  pub there : (c : ℕ) → c < width → slice_index new (to + c) ≡ slice_index old (from + c)
  pub others : (k : ℕ) → IsOutside to width k → slice_index new k ≡ slice_index old k

-- a row of so many words has the ids that a list has for the rows to which another one led, and all other words have
-- stayed
pub record IsMovedDown (stride2 : ℕ) (ids : List ℕ) (width : ℕ) (old new : List ℕ) (from to : ℕ) : Type 0 where
  pub count : length new ≡ length old
  pub there : (c : ℕ) → c < width
      → slice_index new (to + c) ≡ slice_index ids (slice_index old (from + c) / 2 ^ stride2)
  pub others : (k : ℕ) → IsOutside to width k → slice_index new k ≡ slice_index old k

-- The first rows of a list lie at their indices among them, with other ids for the rows to which they lead. The words
-- past the alphabet and those behind these rows have stayed.
pub record AreMovedDown (stride2 alphabet : ℕ) (ids rows : List ℕ) (count : ℕ) (old new : List ℕ) : Type 0 where
  pub length_is : length new ≡ length old
  pub moved : (place c : ℕ) → place < count → c < alphabet
      → slice_index new (place * 2 ^ stride2 + c)
      ≡ slice_index ids (slice_index old (slice_index rows place * 2 ^ stride2 + c) / 2 ^ stride2)
  pub padding : (k : ℕ) → alphabet ≤ k % 2 ^ stride2 → slice_index new k ≡ slice_index old k
  pub behind : (k : ℕ) → count * 2 ^ stride2 ≤ k → slice_index new k ≡ slice_index old k

-- the id that a list, with one for each row, has for the row of an id
abbrev pub renamed_id : Layout → List ℕ → ℕ → ℕ
renamed_id l ids id = slice_index ids (id / stride l)

-- The word at a place where a row is renamed: what stands past the alphabet is no entry, and stays.
abbrev pub renamed_word : Layout → List ℕ → ℕ → ℕ
renamed_word l ids place =
    let word = slice_index l.words place in
    if nat_lt (place % stride l) (alphabet_len l.classes) then renamed_id l ids word else word

-- other ids for the rows to which the rows and the start entries lead
abbrev pub renamed : Layout → List ℕ → Layout
renamed l ids = record l {
  words = map (renamed_word l ids) (range_with_len 0 (length l.words));
  starts = map (renamed_id l ids) l.starts;
}

-- Where a step or a start led to a row, it leads to the row whose id the list has for it.
pub record IsMachineRenamed (l m : Layout) (ids : List ℕ) : Type 0 where
  pub rows : ids_of m ≡ ids_of l
  pub nexts : (row unit : ℕ) → row < row_count l → unit < 257
      → (machine_of m).next row unit ≡ slice_index ids ((machine_of l).next row unit) / stride l
  pub entries : (mode : Anchored) (start : Start) → mode_place mode < length l.starts
      → (machine_of m).entry mode start ≡ slice_index ids ((machine_of l).entry mode start) / stride l

-- other ids for the rows to which one row leads
abbrev pub with_renamed_row : Layout → ℕ → List ℕ → Layout
with_renamed_row l id ids = record l {
  words = map
      (λ place. if place / stride l == id / stride l then renamed_word l ids place else slice_index l.words place)
      (range_with_len 0 (length l.words));
}

-- the same table with fewer rows
abbrev pub with_rows : Layout → ℕ → Layout
with_rows l rows = record l { words = take (rows * stride l) l.words }

-- the rows of a list, each at its index among them, with other ids for the rows to which they and the start entries
-- lead
abbrev pub kept : Layout → (rows ids : List ℕ) → Layout
kept l rows ids = record l {
  words = map
      (λ place. renamed_word l ids (slice_index rows (place / stride l) * stride l + place % stride l))
      (range_with_len 0 (length rows * stride l));
  starts = map (renamed_id l ids) l.starts;
}

-- ---- the patterns of match rows

-- the lists of a map, in the order of its keys
abbrev pub pattern_lists : {A : Type 0} → BTreeMap ℕ (Vec ℕ A) → List (List ℕ)
pattern_lists lists = map vec_items (values lists)

-- for each list where it begins and how long it is, where they are joined and the first begins at a place
abbrev pub slices_from : ℕ → List (List ℕ) → List ℕ
slices_from start [] = []
slices_from start (list ∷ lists) = start ∷ length list ∷ slices_from (start + length list) lists

-- the lists of patterns of all match rows, in their order
abbrev pub with_patterns : Layout → List (List ℕ) → Layout
with_patterns l lists = record l { slices = slices_from 0 lists; pattern_ids = concat lists }

-- ---- how much it keeps

-- in bytes: its words, its start entries, two words for each match row, the pattern ids, and one word and two for
-- each accelerated row
abbrev pub memory_usage : Layout → ℕ
memory_usage l =
    4 * (length l.words + length l.starts + length l.slices + length l.pattern_ids + 1 + 2 * length l.accels)
