-- Tables of a few rows, and the builds that they give.
use Rattle.std.specs.Prelude.{◌≡◌, ℕ, ◌==◌, ◌||◌, Bool, true, false, if◌then◌else◌, Some, None, List, [], ◌∷◌}
use Rattle.rx_spec.specs.Expressions.{Expression}
use Rattle.rx_spec.specs.Queries.{Anchored}
use Rattle.rx_spec.specs.Contexts.{start_of_byte}
use Rattle.rx_spec.specs.Machines.{Label}
use Rattle.rx_spec.specs.Builds.{Build}
use Rattle.rx_spec.specs.Tables.{Table, IsTable, IsSound, row_after}
use Rattle.rx_spec.specs.Labels.{Gives, IsLeastFor}
use Rattle.rx_spec.specs.Ids.{dense_ids, id_of, row_of}
use Rattle.rx_laws.specs.Samples.{forward_build}
use Rattle.rx_spec.specs.declared.Start.{Start}
use Rattle.rx_spec.specs.declared.StartKind.{StartKind}

-- A table of four rows for the empty expression: dead, quit, the start and the match after it.
abbrev pub everywhere_label : ℕ → Label
everywhere_label row =
    if row == 1 then Label.Quits else (if row == 3 then Label.Matches (0 ∷ []) else Label.Plain)

abbrev pub everywhere : Bool → Table
everywhere is_utf8 = record {
  size = 4;
  machine = record {
    entry = λ mode start. 2;
    next = λ row unit. if row == 2 then 3 else 0;
    label = everywhere_label;
    is_dead = λ row. row == 0;
  };
  settings =
      record { start_kind = StartKind.Both; pattern_starts = None; start_of_byte = start_of_byte 10; quit = 0 };
  has_empty = true;
  is_utf8 = is_utf8;
  is_always_start_anchored = false;
  pattern_len = 1;
  is_accelerated = λ row. false;
  needles = λ row. [];
  is_start = λ row. row == 2;
  is_special = λ row. row == 0 || row == 1 || row == 3 || row == 2;
  universal_unanchored = Some 2;
  universal_anchored = Some 2;
}

abbrev pub EverywhereReads : Type 0
EverywhereReads =
    (row_after (everywhere true) Anchored.No Start.Text (97 ∷ []) ≡ 3)
    × (row_after (everywhere true) Anchored.No Start.Text (97 ∷ 97 ∷ []) ≡ 0)

-- it is a table, is sound, and gives the labels of the empty expression's machine
abbrev pub EverywhereIsTable : Type 0
EverywhereIsTable = IsTable (everywhere true)

abbrev pub EverywhereIsSound : Type 0
EverywhereIsSound = IsSound (everywhere true)

abbrev pub EverywhereGives : Type 0
EverywhereGives = Gives (everywhere true) (forward_build (Expression.Empty ∷ []))

-- A table of two rows, dead and quit, for the class of no byte.
abbrev pub nowhere : Table
nowhere = record {
  size = 2;
  machine = record {
    entry = λ mode start. 0;
    next = λ row unit. 0;
    label = λ row. if row == 1 then Label.Quits else Label.Plain;
    is_dead = λ row. row == 0;
  };
  settings =
      record { start_kind = StartKind.Both; pattern_starts = None; start_of_byte = start_of_byte 10; quit = 0 };
  has_empty = false;
  is_utf8 = false;
  is_always_start_anchored = false;
  pattern_len = 1;
  is_accelerated = λ row. false;
  needles = λ row. [];
  is_start = λ row. false;
  is_special = λ row. row == 0 || row == 1;
  universal_unanchored = None;
  universal_anchored = None;
}

abbrev pub no_byte : Build
no_byte = forward_build (Expression.Class 0 ∷ [])

abbrev pub NowhereIsTable : Type 0
NowhereIsTable = IsTable nowhere

abbrev pub NowhereGives : Type 0
NowhereGives = Gives nowhere no_byte

-- no table has fewer rows
abbrev pub NowhereIsLeast : Type 0
NowhereIsLeast = IsLeastFor no_byte 2

-- The ids of a dense table of four rows and a stride of four.
abbrev pub four_ids : List ℕ
four_ids = dense_ids 4 2

abbrev pub FourIds : Type 0
FourIds = four_ids ≡ 0 ∷ 4 ∷ 8 ∷ 12 ∷ []

-- the id of the last row, and the row of an id
abbrev pub LastOfFour : Type 0
LastOfFour = id_of four_ids 3 ≡ 12

abbrev pub RowOfEight : Type 0
RowOfEight = row_of four_ids 8 ≡ 2
