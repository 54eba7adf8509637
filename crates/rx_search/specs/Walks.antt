-- Walks over what is left of a span, and where they next tell something.
use Rattle.std.specs.Prelude.{ℕ, ◌≡◌, ◌≤◌, ◌+◌, ◌-◌, true, if◌then◌else◌, Option, Some, None, Result, Ok, Err, List}
use Rattle.std.specs.Prelude.{[], ◌∷◌, drop}
use Rattle.rx_spec.specs.Bytes.{unit_of}
use Rattle.rx_spec.specs.Looks.{before, after}
use Rattle.rx_spec.specs.Queries.{Query, MatchError}
use Rattle.rx_spec.specs.Machines.{Label, Machine}
use Rattle.rx_spec.specs.Tables.{Table, is_match}
use Rattle.rx_spec.specs.HalfSearches.{units_of, next_offset, unit_offset}
use Rattle.rx_spec.specs.declared.Direction.{Direction}

-- ---- offsets of a span

pub record IsInSpan (q : Query) (offset : ℕ) : Type 0 where
  pub low : q.start ≤ offset
  pub high : offset ≤ q.end

-- the last offset of a walk, where no byte of the span is left
abbrev pub last_offset : Direction → Query → ℕ
last_offset Direction.Forward q = q.end
last_offset Direction.Reverse q = q.start

-- one unit back
abbrev pub previous_offset : Direction → ℕ → ℕ
previous_offset Direction.Forward offset = offset - 1
previous_offset Direction.Reverse offset = offset + 1

-- how many bytes of the span are left at an offset
abbrev pub bytes_left : Direction → Query → ℕ → ℕ
bytes_left Direction.Forward q offset = q.end - offset
bytes_left Direction.Reverse q offset = offset - q.start

-- what is left to be asked there
abbrev pub rest : Direction → Query → ℕ → Query
rest Direction.Forward q offset = record q { start = offset }
rest Direction.Reverse q offset = record q { end = offset }

-- the units that are left there, and those behind the one that is read next
abbrev pub units_left : Direction → Query → ℕ → List ℕ
units_left direction q offset = units_of direction (rest direction q offset)

abbrev pub units_after : Direction → Query → ℕ → List ℕ
units_after direction q offset = drop 1 (units_left direction q offset)

-- the unit that is read next at an offset of a haystack
abbrev pub unit_ahead : Direction → List ℕ → ℕ → ℕ
unit_ahead Direction.Forward haystack offset = unit_of (after haystack offset)
unit_ahead Direction.Reverse haystack offset = unit_of (before haystack offset)

-- ---- stops

-- Where a walk next tells something: at a match row to which a unit led at an offset, where units may be left;
-- at its end; or at a byte that can't be searched.
pub data Stop : Type 0 where
  Match : (row : ℕ) → (offset : ℕ) → (units : List ℕ) → Stop
  Ended : Stop
  Quits : (byte : ℕ) → (offset : ℕ) → Stop

-- what a label makes of a walk that a unit has led to a row
abbrev pub at_stop_label : Label → Direction → (row unit offset : ℕ) → List ℕ → Stop → Stop
at_stop_label Label.Quits direction row unit offset units later = Quits unit (unit_offset direction offset)
at_stop_label (Label.Matches ks) direction row unit offset units later = Match row offset units
at_stop_label Label.Plain direction row unit offset units later = later

unfoldable pub next_stop : Machine ℕ → Direction → (row offset : ℕ) → List ℕ → Stop
next_stop m direction row offset [] = Ended
next_stop m direction row offset (unit ∷ units) =
    let next = m.next row unit in
    at_stop_label (m.label next) direction next unit offset units
    (if m.is_dead next then Ended else next_stop m direction next (next_offset direction offset) units)

-- why it can't be searched any further
abbrev pub stop_error : Stop → Option MatchError
stop_error (Quits byte offset) = Some (MatchError.Quit byte offset)
stop_error _ = None

-- a match row, met at an offset of the span from which no more bytes are left than before
pub record IsMet (t : Table) (direction : Direction) (q : Query) (from row offset : ℕ) : Type 0 where
  pub in_span : IsInSpan q offset
  pub on : bytes_left direction q offset ≤ bytes_left direction q from
  pub is_match : is_match t row ≡ true

-- a walk was led from an offset to a row, and answers where it stops
abbrev pub StopsAt : Table → Direction → Query → (from row : ℕ) → Stop → Result (Option ℕ) MatchError → Type 0
StopsAt t direction q from row stop (Ok (Some offset)) =
    (stop ≡ Match row offset (units_after direction q offset)) × IsMet t direction q from row offset
StopsAt t direction q from row stop (Ok None) = stop ≡ Ended
StopsAt t direction q from row stop (Err error) = stop_error stop ≡ Some error
