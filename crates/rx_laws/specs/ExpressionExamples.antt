-- Expressions: their numbers, their mirrors, and their ends in the order of preference.
use Rattle.std.specs.Prelude.{◌≡◌, true, Some, [], ◌∷◌, codes}
use Rattle.rx_spec.specs.Expressions.{Expression, min_len, depth, mirror, IsLoopSafe}
use Rattle.rx_spec.specs.Ends.{ends}
use Rattle.rx_spec.specs.Queries.{reading}
use Rattle.rx_spec.specs.Rows.{rows_count}
use Rattle.rx_laws.specs.Samples.{byte, range, text, one_or_more, times}
use Rattle.rx_spec.specs.declared.Direction.{Direction}
use Rattle.rx_spec.specs.declared.Look.{Look}

-- An expression's numbers: (a{65536}){65536}, which nobody writes out.
abbrev pub many : Expression
many = times 65536 (times 65536 (byte 97))

abbrev pub NumbersOfMany : Type 0
NumbersOfMany = (rows_count many ≡ 4294967296) × (min_len many ≡ 4294967296) × (depth many ≡ 3)

-- a+ is safe to repeat without an end, a body that may read nothing isn't
abbrev pub SafeLoop : Type 0
SafeLoop = IsLoopSafe (one_or_more true (byte 97))

abbrev pub UnsafeLoop : Type 0
UnsafeLoop = IsLoopSafe (one_or_more true (Expression.Look Look.Start)) → ⊥

-- the mirror of abc
abbrev pub MirrorOfText : Type 0
MirrorOfText =
    mirror (text (codes "abc")) ≡ Expression.Concat (Expression.Concat (byte 99) (byte 98)) (byte 97)

-- the ends of (a|ab)(c|bcd)? on abcd, the preferred first, and of its mirror in reverse from 4
abbrev pub nested : Expression
nested =
    Expression.Concat (Expression.Alternate (byte 97) (text (codes "ab")))
    (Expression.Repeat 0 (Some 1) true (Expression.Alternate (byte 99) (text (codes "bcd"))))

abbrev pub EndsInOrder : Type 0
EndsInOrder = ends (reading Direction.Forward 10 (codes "abcd")) nested 0 ≡ 4 ∷ 1 ∷ 3 ∷ 2 ∷ []

abbrev pub EndsInReverse : Type 0
EndsInReverse = ends (reading Direction.Reverse 10 (codes "abcd")) (mirror nested) 0 ≡ 4 ∷ []

-- A class reads a byte: at the end of a text it matches nothing, whatever it holds.
abbrev pub NothingAtEnd : Type 0
NothingAtEnd = ends (reading Direction.Forward 10 (codes "a")) (range 0 255) 1 ≡ []
