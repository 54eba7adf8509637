-- What is found: the leftmost match, there the lowest pattern, and of it the preferred end; and each match, one
-- after another.
use Rattle.std.specs.Prelude.{◌≡◌, ℕ, ◌+◌, true, false, Some, None, Ok, List, [], ◌∷◌, codes, replicate}
use Rattle.rx_spec.specs.Bytes.{only, between}
use Rattle.rx_spec.specs.Expressions.{Expression}
use Rattle.rx_spec.specs.Queries.{Anchored, Match}
use Rattle.rx_spec.specs.Iterating.{FoundMatches, iterate}
use Rattle.rx_plan.specs.Plans.{outcome}
use Rattle.rx_laws.specs.Samples.{byte, range, text, one_or_more, times, plain, ask, anywhere, match_of}
use Rattle.rx_laws.specs.Samples.{answers, answers_both}
use Rattle.rx_spec.specs.declared.Look.{Look}

-- Two patterns of which the second matches where the search is anchored; no pattern; the empty one.
abbrev pub OfTwoPatterns : Type 0
OfTwoPatterns = answers (byte 97 ∷ byte 98 ∷ []) (ask Anchored.Yes (codes "ba") 0 2) (Some (match_of 1 0 1))

abbrev pub OfNoPattern : Type 0
OfNoPattern = answers_both [] (codes "abc") 0 3 None

abbrev pub OfEmptyPattern : Type 0
OfEmptyPattern = answers_both (Expression.Empty ∷ []) [] 0 0 (Some (match_of 0 0 0))

-- a on bab
abbrev pub LetterFound : Type 0
LetterFound = answers (byte 97 ∷ []) (anywhere (codes "bab")) (Some (match_of 0 1 2))

-- Samwise|Sam and Sam|Samwise on Samwise, and the first on a span that ends after Sam
abbrev pub samwise_first : Expression
samwise_first = Expression.Alternate (text (codes "Samwise")) (text (codes "Sam"))

abbrev pub sam_first : Expression
sam_first = Expression.Alternate (text (codes "Sam")) (text (codes "Samwise"))

abbrev pub LongerFirst : Type 0
LongerFirst = answers_both (samwise_first ∷ []) (codes "Samwise") 0 7 (Some (match_of 0 0 7))

abbrev pub ShorterFirst : Type 0
ShorterFirst = answers_both (sam_first ∷ []) (codes "Samwise") 0 7 (Some (match_of 0 0 3))

abbrev pub LongerPastSpan : Type 0
LongerPastSpan = answers_both (samwise_first ∷ []) (codes "Samwise") 0 3 (Some (match_of 0 0 3))

-- b|ab on ab: what begins first is found, also where another alternative is preferred
abbrev pub Leftmost : Type 0
Leftmost =
    answers (Expression.Alternate (byte 98) (text (codes "ab")) ∷ []) (anywhere (codes "ab")) (Some (match_of 0 0 2))

-- a+ and a+? on aaa
abbrev pub GreedyRounds : Type 0
GreedyRounds = answers (one_or_more true (byte 97) ∷ []) (anywhere (codes "aaa")) (Some (match_of 0 0 3))

abbrev pub LazyRounds : Type 0
LazyRounds = answers (one_or_more false (byte 97) ∷ []) (anywhere (codes "aaa")) (Some (match_of 0 0 1))

-- [^x]* on aaaxaa
abbrev pub all_but_x : Expression
all_but_x = Expression.Repeat 0 None true (Expression.Class (between 0 119 + between 121 255))

abbrev pub UpToByte : Type 0
UpToByte = answers (all_but_x ∷ []) (anywhere (codes "aaaxaa")) (Some (match_of 0 0 3))

-- (a?){4}a{4}b on aaaaaaaa: sixteen ways to read the first four, and no match
abbrev pub many_ways : Expression
many_ways =
    Expression.Concat (times 4 (Expression.Repeat 0 (Some 1) true (byte 97)))
    (Expression.Concat (times 4 (byte 97)) (byte 98))

abbrev pub ManyWaysToNothing : Type 0
ManyWaysToNothing = answers (many_ways ∷ []) (anywhere (replicate 8 97)) None

-- \bx on the x of ax, where a ends lines: a and x are word bytes all the same
abbrev pub WordByteThatEndsLines : Type 0
WordByteThatEndsLines =
    outcome (record plain { line_terminator = 97 })
    (Expression.Concat (Expression.Look Look.WordAscii) (byte 120) ∷ []) (ask Anchored.No (codes "ax") 1 2)
    ≡ Ok None

-- the start of a line, sought between \r and \n: it is after both
abbrev pub LineStartAfterBoth : Type 0
LineStartAfterBoth =
    answers (Expression.Look Look.StartCRLF ∷ []) (ask Anchored.No (13 ∷ 10 ∷ []) 1 2) (Some (match_of 0 2 2))

-- a$ and a\b on the a of ab: at the span's end both see the b beyond it
abbrev pub TextGoesOnPastSpan : Type 0
TextGoesOnPastSpan =
    answers (Expression.Concat (byte 97) (Expression.Look Look.End) ∷ []) (ask Anchored.No (codes "ab") 0 1) None

abbrev pub WordGoesOnPastSpan : Type 0
WordGoesOnPastSpan =
    answers (Expression.Concat (byte 97) (Expression.Look Look.WordAscii) ∷ []) (ask Anchored.No (codes "ab") 0 1) None

-- Each match, one after another: dates, words, lines and places.
abbrev pub each : List Expression → List ℕ → FoundMatches
each es haystack = iterate (outcome plain es) (anywhere haystack)

abbrev pub just : List Match → FoundMatches
just matches = record { matches = matches; error = None }

abbrev pub digits : ℕ → Expression
digits n = times n (range 48 57)

abbrev pub dashed : Expression → Expression → Expression
dashed first second = Expression.Concat first (Expression.Concat (byte 45) second)

abbrev pub date : Expression
date = dashed (digits 4) (dashed (digits 2) (digits 2))

abbrev pub EachDate : Type 0
EachDate = each (date ∷ []) (codes "2018-12-24 2016-10-08") ≡ just (match_of 0 0 10 ∷ match_of 0 11 21 ∷ [])

-- one or more word bytes, or else one or more bytes that are no white space
abbrev pub word_bytes : ℕ
word_bytes = between 48 57 + between 65 90 + only 95 + between 97 122

abbrev pub solid_bytes : ℕ
solid_bytes = between 0 8 + between 14 31 + between 33 255

abbrev pub one_or_more_of : ℕ → Expression
one_or_more_of set = one_or_more true (Expression.Class set)

abbrev pub EachWord : Type 0
EachWord =
    each (one_or_more_of word_bytes ∷ one_or_more_of solid_bytes ∷ []) (codes "@foo bar")
    ≡ just (match_of 1 0 4 ∷ match_of 0 5 8 ∷ [])

abbrev pub EachLineStart : Type 0
EachLineStart =
    each (Expression.Look Look.StartCRLF ∷ []) (13 ∷ 10 ∷ []) ≡ just (match_of 0 0 0 ∷ match_of 0 2 2 ∷ [])

abbrev pub EachPlace : Type 0
EachPlace =
    each (Expression.Empty ∷ []) (226 ∷ 152 ∷ 131 ∷ [])
    ≡ just (match_of 0 0 0 ∷ match_of 0 1 1 ∷ match_of 0 2 2 ∷ match_of 0 3 3 ∷ [])
