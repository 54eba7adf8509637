-- Worked examples: what is left to report at places of one small table.
use Rattle.std.specs.Prelude.{◌≡◌, ℕ, ◌==◌, ◌||◌, Bool, false, if◌then◌else◌, None, List, [], ◌∷◌, codes}
use Rattle.std.specs.List.{range_with_len}
use Rattle.rx_spec.specs.Bytes.{only}
use Rattle.rx_spec.specs.Contexts.{start_of_byte}
use Rattle.rx_spec.specs.Machines.{Label}
use Rattle.rx_spec.specs.Queries.{Anchored}
use Rattle.rx_spec.specs.Tables.{Table}
use Rattle.rx_spec.specs.declared.StartKind.{StartKind}
use Rattle.rx_stream.specs.Remaining.{remaining, now, told}
use Rattle.rx_stream.specs.declared.event.StreamEvent.{StreamEvent}
use Rattle.rx_stream.specs.declared.place.Place.{Place}
use Rattle.rx_stream.specs.declared.place.Stage.{Stage}

-- ---- a table

-- All matches of the letter a, which is pattern 0 and pattern 1, where z quits. After dead and quit come two rows
-- that tell nothing, where the last byte isn't an a (2) or is one (3), and two match rows (4, 5) likewise.
abbrev pub after_letter : ℕ → Bool
after_letter row = row == 3 || row == 5

abbrev pub letter_next : ℕ → ℕ → ℕ
letter_next row unit =
    if row == 0 || row == 1 then 0 else (if unit == 122 then 1
    else (if after_letter row then (if unit == 97 then 5 else 4) else (if unit == 97 then 3 else 2)))

abbrev pub letter_label : ℕ → Label
letter_label row =
    if row == 1 then Label.Quits
    else (if row == 4 || row == 5 then Label.Matches (0 ∷ 1 ∷ []) else Label.Plain)

abbrev pub letter : Table
letter = record {
  size = 6;
  machine = record {
    entry = λ mode start. 2;
    next = letter_next;
    label = letter_label;
    is_dead = λ row. row == 0;
  };
  settings =
      record { start_kind = StartKind.Both; pattern_starts = None; start_of_byte = start_of_byte 10; quit = only 122 };
  has_empty = false;
  is_utf8 = false;
  is_always_start_anchored = false;
  pattern_len = 2;
  is_accelerated = λ row. false;
  needles = λ row. [];
  is_start = λ row. false;
  is_special = λ row. row == 0 || row == 1 || row == 4 || row == 5;
  universal_unanchored = None;
  universal_anchored = None;
}

-- each row is its own id
abbrev pub letter_ids : List ℕ
letter_ids = range_with_len 0 6

abbrev pub found : ℕ → ℕ → StreamEvent
found pattern offset = StreamEvent.Match (record { pattern = pattern; offset = offset })

-- ---- places of it

abbrev pub at_start : Place
at_start = record { row = 2; told = 0; offset = 0; taken = 0; stage = Stage.Open }

-- after ab, of whose match pattern 0 is told
abbrev pub half_told : Stage → Place
half_told stage = record { row = 4; told = 1; offset = 1; taken = 2; stage = stage }

-- after a, and then the end mark
abbrev pub after_end : Place
after_end = record { row = 4; told = 0; offset = 1; taken = 1; stage = Stage.Ended }

-- after z
abbrev pub after_quit : Place
after_quit = record { row = 1; told = 0; offset = 0; taken = 1; stage = Stage.Open }

-- ---- what remains

abbrev pub remains : Place → List ℕ → List StreamEvent
remains place bytes = remaining letter letter_ids place bytes

abbrev pub tells_now : Place → List ℕ → List StreamEvent
tells_now place bytes = now letter letter_ids place bytes

-- A match is told by the next unit: that of the last a by the end mark.
abbrev pub AllRemains : Type 0
AllRemains = remains at_start (codes "aba") ≡ found 0 1 ∷ found 1 1 ∷ found 0 3 ∷ found 1 3 ∷ []

abbrev pub NowOfStart : Type 0
NowOfStart = tells_now at_start (codes "aba") ≡ found 0 1 ∷ found 1 1 ∷ []

-- as an overlapping search of the whole text tells it
abbrev pub ToldOfWhole : Type 0
ToldOfWhole = told letter Anchored.No (codes "aba") ≡ remains at_start (codes "aba")

-- A pattern that is left is told before anything is read.
abbrev pub PendingRemains : Type 0
PendingRemains = remains (half_told Stage.Open) (codes "a") ≡ found 1 1 ∷ found 0 3 ∷ found 1 3 ∷ []

abbrev pub PendingNow : Type 0
PendingNow = tells_now (half_told Stage.Open) [] ≡ found 1 1 ∷ []

-- also where no more bytes come
abbrev pub PendingAtClose : Type 0
PendingAtClose = remains (half_told Stage.Closed) [] ≡ found 1 1 ∷ []

-- Once the end mark is read its matches remain, whatever bytes are asked for, and none of them is told before it.
abbrev pub EndRemains : Type 0
EndRemains = remains after_end (codes "aa") ≡ found 0 1 ∷ found 1 1 ∷ []

abbrev pub NothingBeforeEnd : Type 0
NothingBeforeEnd = tells_now after_end (codes "aa") ≡ []

-- A quit byte is told, but not the match that ends before it.
abbrev pub QuitTold : Type 0
QuitTold = remains at_start (codes "abaz") ≡ found 0 1 ∷ found 1 1 ∷ StreamEvent.Quit 122 3 ∷ []

abbrev pub QuitToldNow : Type 0
QuitToldNow = tells_now at_start (codes "abaz") ≡ remains at_start (codes "abaz")

abbrev pub NothingAfterQuit : Type 0
NothingAfterQuit = remains after_quit (codes "aba") ≡ []
