-- The rows of small NFAs, and where searches of the text's edge begin.
use Rattle.std.specs.Prelude.{◌≡◌, Bool, true, false, Some, None, List, [], ◌∷◌}
use Rattle.rx_spec.specs.Bytes.{only, all_bytes}
use Rattle.rx_spec.specs.Expressions.{Expression}
use Rattle.rx_spec.specs.Rows.{Row}
use Rattle.rx_spec.specs.Nfas.{nfa_of, is_always_start_anchored}
use Rattle.rx_laws.specs.Samples.{byte, one_letter}
use Rattle.rx_spec.specs.declared.Direction.{Direction}
use Rattle.rx_spec.specs.declared.Look.{Look}

abbrev pub rows_of : List Expression → List Row
rows_of es = (nfa_of Direction.Forward 10 false es).rows

-- a: the pattern's match row, its byte, and the lead-in of an unanchored search
abbrev pub RowsOfLetter : Type 0
RowsOfLetter =
    one_letter.rows ≡ Row.Match 0 ∷ Row.Bytes (only 97) 0 ∷ Row.Split 1 3 ∷ Row.Bytes all_bytes 2 ∷ []

abbrev pub EntriesOfLetter : Type 0
EntriesOfLetter =
    (one_letter.start_anchored ≡ 1) × (one_letter.start_unanchored ≡ 2) × (one_letter.start_patterns ≡ 1 ∷ [])

-- a and b: a Split of the two where an anchored search begins
abbrev pub RowsOfTwo : Type 0
RowsOfTwo =
    rows_of (byte 97 ∷ byte 98 ∷ [])
    ≡ Row.Match 0 ∷ Row.Bytes (only 97) 0 ∷ Row.Match 1 ∷ Row.Bytes (only 98) 2 ∷ Row.Split 1 3
    ∷ Row.Split 4 6 ∷ Row.Bytes all_bytes 5 ∷ []

-- a{1,2} and a*, lazy
abbrev pub RowsOfBounded : Type 0
RowsOfBounded =
    rows_of (Expression.Repeat 1 (Some 2) true (byte 97) ∷ [])
    ≡ Row.Match 0 ∷ Row.Bytes (only 97) 0 ∷ Row.Split 1 0 ∷ Row.Bytes (only 97) 2
    ∷ Row.Split 3 5 ∷ Row.Bytes all_bytes 4 ∷ []

abbrev pub RowsOfLazyLoop : Type 0
RowsOfLazyLoop =
    rows_of (Expression.Repeat 0 None false (byte 97) ∷ [])
    ≡ Row.Match 0 ∷ Row.Split 0 2 ∷ Row.Bytes (only 97) 1 ∷ Row.Split 1 4 ∷ Row.Bytes all_bytes 3 ∷ []

-- ^a forward and a$ in reverse begin with the text's edge: an unanchored search begins there too
abbrev pub first_a : Expression
first_a = Expression.Concat (Expression.Look Look.Start) (byte 97)

abbrev pub last_a : Expression
last_a = Expression.Concat (byte 97) (Expression.Look Look.End)

abbrev pub always_anchored : Direction → Expression → Bool
always_anchored direction e = is_always_start_anchored (nfa_of direction 10 false (e ∷ []))

abbrev pub EdgeForward : Type 0
EdgeForward =
    (always_anchored Direction.Forward first_a ≡ true) × (always_anchored Direction.Forward last_a ≡ false)

abbrev pub EdgeInReverse : Type 0
EdgeInReverse =
    (always_anchored Direction.Reverse last_a ≡ true) × (always_anchored Direction.Reverse first_a ≡ false)
