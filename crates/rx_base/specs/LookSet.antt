-- A set of assertions, as the number that its bits make.
use Rattle.std.specs.Prelude.{ℕ, Bool, ◌==◌, List, [], ◌∷◌}
use Rattle.std.specs.Int.{bit_at}
use Rattle.rx_spec.specs.declared.Look.{Look}

-- all assertions, and the place of each among them
abbrev pub all_looks : List Look
all_looks =
    Look.Start ∷ Look.End ∷ Look.StartLF ∷ Look.EndLF ∷ Look.StartCRLF ∷ Look.EndCRLF
    ∷ Look.WordAscii ∷ Look.WordAsciiNegate ∷ Look.WordUnicode ∷ Look.WordUnicodeNegate
    ∷ Look.WordStartAscii ∷ Look.WordEndAscii ∷ Look.WordStartUnicode ∷ Look.WordEndUnicode
    ∷ Look.WordStartHalfAscii ∷ Look.WordEndHalfAscii ∷ Look.WordStartHalfUnicode ∷ Look.WordEndHalfUnicode ∷ []

abbrev pub look_number : Look → ℕ
look_number Look.Start = 0
look_number Look.End = 1
look_number Look.StartLF = 2
look_number Look.EndLF = 3
look_number Look.StartCRLF = 4
look_number Look.EndCRLF = 5
look_number Look.WordAscii = 6
look_number Look.WordAsciiNegate = 7
look_number Look.WordUnicode = 8
look_number Look.WordUnicodeNegate = 9
look_number Look.WordStartAscii = 10
look_number Look.WordEndAscii = 11
look_number Look.WordStartUnicode = 12
look_number Look.WordEndUnicode = 13
look_number Look.WordStartHalfAscii = 14
look_number Look.WordEndHalfAscii = 15
look_number Look.WordStartHalfUnicode = 16
look_number Look.WordEndHalfUnicode = 17

-- whether an assertion is in a set
abbrev pub holds_look : ℕ → Look → Bool
holds_look set look = bit_at set (look_number look) == 1
