-- The lines of a text, and the words of a line.
use Rattle.std.specs.Prelude.{ℕ, ◌+◌, Bool, true, false, not, ◌==◌, ◌&&◌, nat_le, if◌then◌else◌, List, [], ◌∷◌, length}
use Rattle.std.specs.Prelude.{Option, Some, None, option_map}
use denote.Ref.{Bor}
use Rattle.std.specs.List.{slice_split, onto_first}

-- A line ends at each byte 10. After the last of these there is a line only if a byte stands there.
abbrev pub lines_of : List ℕ → List (List ℕ)
lines_of [] = []
lines_of (b ∷ bs) = if b == 10 then [] ∷ lines_of bs else onto_first b (lines_of bs)

-- Words with one space between two: no space at the ends, and no two in a row, and every other byte a
-- visible one of ASCII. The first argument says whether a gap stands before.
abbrev pub is_spaced : Bool → List ℕ → Bool
is_spaced gap [] = not gap
is_spaced gap (b ∷ bs) =
    if b == 32 then not gap && is_spaced true bs else (nat_le 33 b && nat_le b 126 && is_spaced false bs)

-- the words of a line
abbrev pub words_of : List ℕ → List (List ℕ)
words_of line = slice_split (λ b. b == 32) line

-- a text cut at the first byte c: what stands before it, and what stands after it, if it occurs
abbrev pub cut : ℕ → List ℕ → List ℕ × Option (List ℕ)
cut c [] = ([], None)
cut c (b ∷ bs) = if b == c then ([], Some bs) else (b ∷ (cut c bs).0, (cut c bs).1)

-- what is left of a text that is cut at a byte, and how many bytes that is, a separator before it counted
abbrev pub pieces_left : ℕ → Option (List ℕ) → List (List ℕ)
pieces_left separator None = []
pieces_left separator (Some text) = slice_split (λ b. b == separator) text

abbrev pub bytes_left : Option (List ℕ) → ℕ
bytes_left None = 0
bytes_left (Some text) = length text + 1

-- what is left of a line: its words, and how many bytes that is
abbrev pub words_left : Option (Bor (List ℕ)) → List (List ℕ)
words_left rest = pieces_left 32 (option_map (λ t. t.now) rest)

abbrev pub line_left : Option (Bor (List ℕ)) → ℕ
line_left rest = bytes_left (option_map (λ t. t.now) rest)
