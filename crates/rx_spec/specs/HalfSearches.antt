-- Half searches over a machine: they tell one side of a match, its end forward, its start in reverse. The
-- names are those of regex-automata.
use Rattle.std.specs.Prelude.{ℕ, ◌+◌, ◌-◌, Bool, if◌then◌else◌, Option, Some, None, Result, Ok, Err, List}
use Rattle.std.specs.Prelude.{[], ◌∷◌, ◌++◌, take, drop, reverse}
use Rattle.rx_spec.specs.Bytes.{unit_of}
use Rattle.rx_spec.specs.Looks.{before, after}
use Rattle.rx_spec.specs.Queries.{Query, HalfMatch, MatchError, is_done}
use Rattle.rx_spec.specs.Machines.{Label, Machine, Settings}
use Rattle.rx_spec.specs.Starts.{StartError, start_error, start_row}
use Rattle.rx_spec.specs.declared.Direction.{Direction}

-- ---- what is read

-- the bytes of a span
abbrev pub span_bytes : Query → List ℕ
span_bytes q = take (q.end - q.start) (drop q.start q.haystack)

-- Forward the span and then the byte after it, in reverse the span from its end and then the byte before it.
-- Where that byte is absent, it is the end mark.
abbrev pub units_of : Direction → Query → List ℕ
units_of Direction.Forward q = span_bytes q ++ (unit_of (after q.haystack q.end) ∷ [])
units_of Direction.Reverse q = reverse (span_bytes q) ++ (unit_of (before q.haystack q.start) ∷ [])

-- the byte that stands beside the span where the search begins, and its offset
abbrev pub beside : Direction → Query → Option ℕ
beside Direction.Forward q = before q.haystack q.start
beside Direction.Reverse q = after q.haystack q.end

abbrev pub beside_offset : Direction → Query → ℕ
beside_offset Direction.Forward q = q.start - 1
beside_offset Direction.Reverse q = q.end

-- ---- offsets

-- Where a walk stands is told by an offset: forward that of the unit read next, in reverse that of the byte
-- read last.
abbrev pub first_offset : Direction → Query → ℕ
first_offset Direction.Forward q = q.start
first_offset Direction.Reverse q = q.end

-- one unit on
abbrev pub next_offset : Direction → ℕ → ℕ
next_offset Direction.Forward offset = offset + 1
next_offset Direction.Reverse offset = offset - 1

-- the offset of the unit that is read there
abbrev pub unit_offset : Direction → ℕ → ℕ
unit_offset Direction.Forward offset = offset
unit_offset Direction.Reverse offset = offset - 1

-- ---- the walk

-- what a half search answers
abbrev pub HalfAnswer : Type 0
HalfAnswer = Result (Option HalfMatch) MatchError

-- the first pattern of a match row; no label of a table is an empty list
abbrev pub first_match : List ℕ → ℕ → HalfMatch
first_match [] offset = record { pattern = 0; offset = offset }
first_match (k ∷ ks) offset = record { pattern = k; offset = offset }

-- the last match, once a label is met at an offset
abbrev pub last_match : Label → ℕ → Option HalfMatch → Option HalfMatch
last_match (Label.Matches ks) offset last = Some (first_match ks offset)
last_match _ offset last = last

-- How a walk goes on that a unit has led to a label at an offset: it quits, it ends now, or it goes on later.
abbrev pub at_label : Label → Direction → Bool → ℕ → ℕ → HalfAnswer → HalfAnswer → HalfAnswer
at_label Label.Quits direction earliest unit offset now later =
    Err (MatchError.Quit unit (unit_offset direction offset))
at_label (Label.Matches ks) direction earliest unit offset now later = if earliest then now else later
at_label Label.Plain direction earliest unit offset now later = later

-- The walk over the units that are left: it keeps the last match, and stops at dead, at quit, after the last
-- unit, and at the first match where that will do.
unfoldable pub walk : {R : Type 0}
    → Machine R → Direction → Bool → R → ℕ → Option HalfMatch → List ℕ → HalfAnswer
walk m direction earliest row offset last [] = Ok last
walk m direction earliest row offset last (unit ∷ units) =
    let next = m.next row unit in
    let met = last_match (m.label next) offset last in
    at_label (m.label next) direction earliest unit offset (Ok met)
    (if m.is_dead next then Ok met else walk m direction earliest next (next_offset direction offset) met units)

-- ---- the search

-- a start's error as one of the search, which has offsets
abbrev pub match_error : Direction → Query → StartError → MatchError
match_error direction q (StartError.Quit byte) = MatchError.Quit byte (beside_offset direction q)
match_error direction q (StartError.UnsupportedAnchored mode) = MatchError.UnsupportedAnchored mode

-- the start where it isn't refused
abbrev pub from_start : Direction → Query → Option StartError → HalfAnswer → HalfAnswer
from_start direction q None answer = answer
from_start direction q (Some error) answer = Err (match_error direction q error)

-- the walk over all that is read, from a row
abbrev pub whole_walk : {R : Type 0} → Machine R → Direction → Query → R → HalfAnswer
whole_walk m direction q row = walk m direction q.earliest row (first_offset direction q) None (units_of direction q)

-- A half search: a done query gives none, before any start is asked for.
abbrev pub half_search : {R : Type 0} → Machine R → Settings → Direction → Query → HalfAnswer
half_search m s direction q =
    if is_done q then Ok None
    else from_start direction q (start_error s (beside direction q) q.mode)
    (whole_walk m direction q (start_row m s (beside direction q) q.mode))
