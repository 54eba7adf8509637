-- Rows that are renamed, cut off or kept, of a table of three.
use Rattle.std.specs.Prelude.{◌≡◌, false, [], ◌∷◌, ◌++◌, replicate}
use Rattle.rx_spec.specs.declared.StartKind.{StartKind}
use Rattle.rx_dense.specs.Builder.{initial, kept, renamed, with_renamed_row, with_rows}
use Rattle.rx_dense.specs.Layouts.{Layout}

-- Dead, a row that leads to the third and to itself, and a row that leads to itself and to the second. A row has two
-- classes of bytes, the end mark and one word more. There are two starts, at the third row and at the second.
abbrev pub three_rows : Layout
three_rows = record (initial (record {
  classes = replicate 97 0 ++ replicate 159 1;
  pattern_len = 0;
  start_kind = StartKind.Both;
  line_terminator = 10;
  pattern_starts = false;
  quit = 0;
  flags = record { has_empty = false; is_utf8 = false; is_always_start_anchored = false };
})) {
  words = 0 ∷ 0 ∷ 0 ∷ 0 ∷ 8 ∷ 4 ∷ 0 ∷ 0 ∷ 8 ∷ 4 ∷ 0 ∷ 7 ∷ [];
  starts = 8 ∷ 4 ∷ replicate 10 0;
}

-- The second and the third row exchange their names. The word past the alphabet is no id, and stays.
abbrev pub RenamesAllRows : Type 0
RenamesAllRows = renamed three_rows (0 ∷ 8 ∷ 4 ∷ []) ≡ record three_rows {
  words = 0 ∷ 0 ∷ 0 ∷ 0 ∷ 4 ∷ 8 ∷ 0 ∷ 0 ∷ 4 ∷ 8 ∷ 0 ∷ 7 ∷ [];
  starts = 4 ∷ 8 ∷ replicate 10 0;
}

-- only the second row leads elsewhere
abbrev pub RenamesOneRow : Type 0
RenamesOneRow = with_renamed_row three_rows 4 (0 ∷ 8 ∷ 4 ∷ []) ≡ record three_rows {
  words = 0 ∷ 0 ∷ 0 ∷ 0 ∷ 4 ∷ 8 ∷ 0 ∷ 0 ∷ 8 ∷ 4 ∷ 0 ∷ 7 ∷ [];
}

-- The third row is cut off.
abbrev pub CutsLastRow : Type 0
CutsLastRow =
    with_rows three_rows 2 ≡ record three_rows { words = 0 ∷ 0 ∷ 0 ∷ 0 ∷ 8 ∷ 4 ∷ 0 ∷ 0 ∷ [] }

-- The second row is cut off: the third has its place and its name, and what led to the second leads to dead.
abbrev pub KeepsTwoRows : Type 0
KeepsTwoRows = kept three_rows (0 ∷ 2 ∷ []) (0 ∷ 0 ∷ 4 ∷ []) ≡ record three_rows {
  words = 0 ∷ 0 ∷ 0 ∷ 0 ∷ 4 ∷ 0 ∷ 0 ∷ 7 ∷ [];
  starts = 4 ∷ 0 ∷ replicate 10 0;
}
