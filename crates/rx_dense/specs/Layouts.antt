-- A dense table as it lies in memory: a record of lists and numbers, and the table of the definitions that it
-- means. What an image of a table spells is the same record.
use Rattle.std.specs.Prelude.{ℕ, ◌≡◌, ◌<◌, ◌≤◌, ◌==◌, ◌+◌, ◌-◌, ◌*◌, ◌/◌, ◌%◌, ◌^◌, ◌&&◌, nat_lt, nat_le, Bool}
use Rattle.std.specs.Prelude.{if◌then◌else◌, Option, Some, None, List, [], length, take, drop, slice_index, get_or}
use Rattle.rx_spec.specs.Causes.{max_id}
use Rattle.rx_spec.specs.Ids.{dense_ids}
use Rattle.rx_spec.specs.Machines.{Label, Machine, Settings}
use Rattle.rx_spec.specs.Queries.{Anchored}
use Rattle.rx_spec.specs.Tables.{Table}
use Rattle.rx_spec.specs.declared.Start.{Start}
use Rattle.rx_spec.specs.declared.StartKind.{StartKind}
use Rattle.rx_base.specs.ByteClasses.{AreClasses, alphabet_len}
use Rattle.rx_dense.specs.declared.flags.Flags.{Flags}
use Rattle.rx_dense.specs.declared.special.Special.{Special}
use Rattle.rx_dense.specs.Specials.{is_quit_id, is_match_id, is_accel_id, is_start_id}

pub record Layout : Type 0 where
  pub flags : Flags
  -- the class of each byte; a row has so many words as the stride, whose exponent this is
  pub classes : List ℕ
  pub stride2 : ℕ
  -- for each row the ids of its next rows: one for each class, one for the end mark, and zeros up to the stride
  pub words : List ℕ
  -- for which modes there are start entries, the start context of each byte, and the ids of the start rows: six
  -- without an anchor, six with one, and six for each pattern that has starts of its own
  pub start_kind : StartKind
  pub contexts : List Start
  pub pattern_starts : Option ℕ
  pub starts : List ℕ
  -- one start row for all contexts
  pub universal_unanchored : Option ℕ
  pub universal_anchored : Option ℕ
  -- for each match row where its patterns begin among the pattern ids, and how many there are
  pub slices : List ℕ
  pub pattern_ids : List ℕ
  pub pattern_len : ℕ
  pub special : Special
  -- the needles of each accelerated row
  pub accels : List (List ℕ)
  pub quit : ℕ

-- ---- rows and their ids

abbrev pub stride : Layout → ℕ
stride l = 2 ^ l.stride2

abbrev pub row_count : Layout → ℕ
row_count l = length l.words / stride l

abbrev pub ids_of : Layout → List ℕ
ids_of l = dense_ids (row_count l) l.stride2

-- the id of a row is the place of its first word
pub record IsRowId (l : Layout) (id : ℕ) : Type 0 where
  pub whole : id % stride l ≡ 0
  pub below : id + stride l ≤ length l.words

abbrev pub is_row_id : Layout → ℕ → Bool
is_row_id l id = (id % stride l == 0) && nat_lt id (length l.words)

-- ---- the table

-- the column of a unit: that of the end mark is the last
abbrev pub column : Layout → ℕ → ℕ
column l unit = if unit == 256 then slice_index l.classes 255 + 1 else slice_index l.classes unit

abbrev pub next_id : Layout → ℕ → ℕ → ℕ
next_id l id unit = slice_index l.words (id + column l unit)

-- the place of a start context among six
abbrev pub context_number : Start → ℕ
context_number Start.NonWordByte = 0
context_number Start.WordByte = 1
context_number Start.Text = 2
context_number Start.LineLF = 3
context_number Start.LineCR = 4
context_number Start.CustomLineTerminator = 5

-- where the start entries of a mode begin, and how many there are in all
abbrev pub mode_place : Anchored → ℕ
mode_place Anchored.No = 0
mode_place Anchored.Yes = 6
mode_place (Anchored.Pattern k) = 12 + 6 * k

abbrev pub start_entries : Option ℕ → ℕ
start_entries None = 12
start_entries (Some n) = 12 + 6 * n

-- The start entry of a mode and a context. A pattern without starts of its own starts at dead.
abbrev pub start_id : Layout → Anchored → Start → ℕ
start_id l mode start =
    if nat_lt (mode_place mode) (length l.starts)
    then slice_index l.starts (mode_place mode + context_number start) else 0

-- which row of its kind an id is that of
abbrev pub place_in_range : Layout → (first id : ℕ) → ℕ
place_in_range l first id = (id - first) / stride l

-- the patterns of a match row
abbrev pub patterns_at : Layout → ℕ → List ℕ
patterns_at l i = take (slice_index l.slices (2 * i + 1)) (drop (slice_index l.slices (2 * i)) l.pattern_ids)

abbrev pub label_of_id : Layout → ℕ → Label
label_of_id l id =
    if is_match_id l.special id then Label.Matches (patterns_at l (place_in_range l l.special.min_match id))
    else (if is_quit_id l.special id then Label.Quits else Label.Plain)

abbrev pub needles_of_id : Layout → ℕ → List ℕ
needles_of_id l id =
    if is_accel_id l.special id then get_or l.accels (place_in_range l l.special.min_accel id) [] else []

-- the universal start that is kept for a mode; it is one where it is a row
abbrev pub universal_id : Layout → Anchored → Option ℕ
universal_id l Anchored.No = l.universal_unanchored
universal_id l Anchored.Yes = l.universal_anchored
universal_id l (Anchored.Pattern k) = None

abbrev pub universal_row : Layout → Option ℕ → Option ℕ
universal_row l None = None
universal_row l (Some id) = if is_row_id l id then Some (id / stride l) else None

abbrev pub machine_of : Layout → Machine ℕ
machine_of l = record {
  entry = λ mode start. start_id l mode start / stride l;
  next = λ row unit. next_id l (row * stride l) unit / stride l;
  label = λ row. label_of_id l (row * stride l);
  is_dead = λ row. row == 0;
}

abbrev pub settings_of : Layout → Settings
settings_of l = record {
  start_kind = l.start_kind;
  pattern_starts = l.pattern_starts;
  start_of_byte = λ byte. get_or l.contexts byte Start.NonWordByte;
  quit = l.quit;
}

abbrev pub table_of : Layout → Table
table_of l = record {
  size = row_count l;
  machine = machine_of l;
  settings = settings_of l;
  has_empty = l.flags.has_empty;
  is_utf8 = l.flags.is_utf8;
  is_always_start_anchored = l.flags.is_always_start_anchored;
  pattern_len = l.pattern_len;
  is_accelerated = λ row. is_accel_id l.special (row * stride l);
  needles = λ row. needles_of_id l (row * stride l);
  is_start = λ row. is_start_id l.special (row * stride l);
  is_special = λ row. nat_le (row * stride l) l.special.max;
  universal_unanchored = universal_row l l.universal_unanchored;
  universal_anchored = universal_row l l.universal_anchored;
}

-- ---- what is true of every dense table, also while it is built

-- The rows fill the words, each has an id, and each entry is the id of a row.
pub record AreRows (l : Layout) : Type 0 where
  pub classes : AreClasses l.classes
  pub exponent : l.stride2 ≤ 9
  pub fits : alphabet_len l.classes ≤ stride l
  pub whole : length l.words % stride l ≡ 0
  pub two : 2 * stride l ≤ length l.words
  pub few : length l.words ≤ max_id + stride l
  pub next_ids : (k : ℕ) → k < length l.words → IsRowId l (slice_index l.words k)
  pub past_alphabet : (k : ℕ) → k < length l.words → alphabet_len l.classes ≤ k % stride l → slice_index l.words k ≡ 0

-- There are start entries for both modes and for the patterns that have starts of their own, as many as have ids.
pub record AreStarts (l : Layout) : Type 0 where
  pub contexts : length l.contexts ≡ 256
  pub count : length l.starts ≡ start_entries l.pattern_starts
  pub small : length l.starts ≤ 12 + 6 * (max_id + 1)
  pub start_ids : (k : ℕ) → k < length l.starts → IsRowId l (slice_index l.starts k)

-- The patterns of each match row stand among the pattern ids, and there is a pair of words for each. There are no more
-- patterns than ids, and of match rows, pattern ids and accelerated rows no more than a word can count.
pub record AreLists (l : Layout) : Type 0 where
  pub few_patterns : l.pattern_len ≤ max_id + 1
  pub pairs : length l.slices % 2 ≡ 0
  pub few_rows : length l.slices < 2 * 2 ^ 32
  pub few : length l.pattern_ids < 2 ^ 32
  pub within : (i : ℕ) → 2 * i + 1 < length l.slices
      → slice_index l.slices (2 * i) + slice_index l.slices (2 * i + 1) ≤ length l.pattern_ids
  pub few_accels : length l.accels < 2 ^ 32

pub record IsShaped (l : Layout) : Type 0 where
  pub rows : AreRows l
  pub starts : AreStarts l
  pub lists : AreLists l
