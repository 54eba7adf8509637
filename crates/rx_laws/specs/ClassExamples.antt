-- Byte classes, alphabets and strides, the quit set in effect, start contexts and the facts that are kept.
use Rattle.std.specs.Prelude.{◌≡◌, ℕ, ◌+◌, true, false, Some, None, [], ◌∷◌, map}
use Rattle.rx_spec.specs.Bytes.{only, between}
use Rattle.rx_spec.specs.Expressions.{Expression}
use Rattle.rx_spec.specs.Rows.{Row}
use Rattle.rx_spec.specs.Nfas.{nfa_of, never_match}
use Rattle.rx_spec.specs.Contexts.{no_facts, facts_kept, start_of, start_facts, all_starts}
use Rattle.rx_spec.specs.Classes.{class_by, alphabet_by, column_by, representatives, ends_class, stride2_of, quit_set}
use Rattle.rx_laws.specs.Samples.{byte, range, one_or_more, one_letter}
use Rattle.rx_spec.specs.declared.Direction.{Direction}
use Rattle.rx_spec.specs.declared.Look.{Look}
use Rattle.rx_spec.specs.declared.Start.{Start}

-- The classes of a to z: below, within, and above.
abbrev pub in_lower_case : ℕ → ℕ
in_lower_case b = class_by (ends_class (record never_match { rows = Row.Bytes (between 97 122) 0 ∷ [] }) 0 true) b

abbrev pub ClassesOfRange : Type 0
ClassesOfRange = map in_lower_case (0 ∷ 97 ∷ 109 ∷ 122 ∷ 255 ∷ []) ≡ 0 ∷ 1 ∷ 1 ∷ 1 ∷ 2 ∷ []

-- an alphabet of one row, its end mark included
abbrev pub alphabet_of : Row → ℕ
alphabet_of row = alphabet_by (ends_class (record never_match { rows = row ∷ [] }) 0 true)

abbrev pub AlphabetOfRange : Type 0
AlphabetOfRange = (alphabet_of (Row.Bytes (between 97 122) 0) ≡ 4) × (stride2_of 4 ≡ 2)

abbrev pub AlphabetOfLines : Type 0
AlphabetOfLines =
    (alphabet_of (Row.Look Look.StartLF 0) ≡ 4) × (alphabet_of (Row.Look Look.StartCRLF 0) ≡ 6)

-- a has class 1, and without byte classes its own number; the alphabets of the two
abbrev pub ClassOfLetter : Type 0
ClassOfLetter =
    (class_by (ends_class one_letter 0 true) 97 ≡ 1) × (class_by (ends_class one_letter 0 false) 97 ≡ 97)

abbrev pub AlphabetOfLetter : Type 0
AlphabetOfLetter =
    (alphabet_by (ends_class one_letter 0 true) ≡ 4) × (alphabet_by (ends_class one_letter 0 false) ≡ 257)
    × (stride2_of 257 ≡ 9)

-- the columns of a byte and of the end mark, and the least byte of each class
abbrev pub ColumnsOfLetter : Type 0
ColumnsOfLetter = map (column_by (ends_class one_letter 0 true)) (0 ∷ 97 ∷ 98 ∷ 256 ∷ []) ≡ 0 ∷ 1 ∷ 2 ∷ 3 ∷ []

abbrev pub LeastOfLetter : Type 0
LeastOfLetter = representatives (ends_class one_letter 0 true) ≡ 0 ∷ 97 ∷ 98 ∷ []

-- \b[0-9]+\b with Unicode words, which quits at every byte from 0x80 on where the heuristic is on
abbrev pub number : Expression
number =
    Expression.Concat (Expression.Look Look.WordUnicode)
    (Expression.Concat (one_or_more true (range 48 57)) (Expression.Look Look.WordUnicode))

abbrev pub QuitBytes : Type 0
QuitBytes =
    (quit_set (nfa_of Direction.Forward 10 false (number ∷ [])) (only 122) true ≡ only 122 + between 128 255)
    × (quit_set one_letter (only 122) true ≡ only 122)

-- Start contexts: of \n, \r, a letter, a space, the edge, and of a semicolon that ends lines.
abbrev pub StartContexts : Type 0
StartContexts =
    map (start_of 59) (Some 10 ∷ Some 13 ∷ Some 97 ∷ Some 32 ∷ None ∷ Some 59 ∷ [])
    ≡ Start.LineLF ∷ Start.LineCR ∷ Start.WordByte ∷ Start.NonWordByte ∷ Start.Text ∷ Start.CustomLineTerminator ∷ []

-- what each context knows, where a line ends in a letter: only its own context and that of letters are
-- of word bytes
abbrev pub StartWords : Type 0
StartWords =
    map (λ start. (start_facts 97 start).word) all_starts ≡ false ∷ true ∷ false ∷ false ∷ false ∷ true ∷ []

-- a\b keeps of the unit read last whether it is a word byte, and nothing else
abbrev pub word_a : Expression
word_a = Expression.Concat (byte 97) (Expression.Look Look.WordAscii)

abbrev pub FactsOfWords : Type 0
FactsOfWords = facts_kept (nfa_of Direction.Forward 10 false (word_a ∷ [])).rows ≡ record no_facts { word = true }
