-- What the calls of an overlapping search tell, one after another, and what they leave to be told.
use Rattle.std.specs.Prelude.{ℕ, ◌≡◌, ◌<◌, ◌≤◌, true, Option, Some, None, Result, Ok, Err, List, [], ◌∷◌, length, drop}
use Rattle.rx_spec.specs.Ids.{row_of}
use Rattle.rx_spec.specs.Queries.{Query, HalfMatch, MatchError}
use Rattle.rx_spec.specs.Overlapping.{Item, Ending, OverlappingMatches, none_left, overlapping, remaining}
use Rattle.rx_spec.specs.Tables.{Table, is_match}
use Rattle.rx_spec.specs.declared.Direction.{Direction}
use Rattle.rx_search.specs.Labels.{patterns_of}
use Rattle.rx_search.specs.Starts.{IsId}
use Rattle.rx_search.specs.Walks.{IsInSpan, units_after}
use Rattle.rx_search.specs.declared.overlapping.OverlappingState.{OverlappingState}
use Rattle.rx_search.specs.declared.overlapping.MetRow.{MetRow}
use Rattle.rx_search.specs.declared.overlapping.Stage.{Stage}

-- ---- states

-- A state fits a search where it is fresh, where it has ended, or where it stands at a match row that may have
-- been met at an offset of the span.
pub record IsMatchRow (t : Table) (ids : List ℕ) (q : Query) (met : MetRow) : Type 0 where
  pub is_id : IsId ids met.row
  pub is_match : is_match t (row_of ids met.row) ≡ true
  pub in_span : IsInSpan q met.offset
  pub within : met.told ≤ length (patterns_of t (row_of ids met.row))

abbrev pub FitsAt : Table → List ℕ → Query → Stage → Type 0
FitsAt t ids q Stage.Fresh = Unit {0}
FitsAt t ids q (Stage.Met met) = IsMatchRow t ids q met
FitsAt t ids q Stage.Ended = Unit {0}

abbrev pub Fits : Table → List ℕ → Query → OverlappingState → Type 0
Fits t ids q state = FitsAt t ids q state.stage

-- what remains to be told
abbrev pub remaining_at : Table → List ℕ → Direction → Query → Stage → OverlappingMatches
remaining_at t ids direction q Stage.Fresh = overlapping t.machine t.settings direction q
remaining_at t ids direction q (Stage.Met met) =
    remaining t.machine direction (drop met.told (patterns_of t (row_of ids met.row))) met.offset (row_of ids met.row)
    (units_after direction q met.offset)
remaining_at t ids direction q Stage.Ended = none_left Ending.Ended

abbrev pub remaining_matches : Table → List ℕ → Direction → Query → OverlappingState → OverlappingMatches
remaining_matches t ids direction q state = remaining_at t ids direction q state.stage

-- ---- calls

-- what a call answers and tells, and what it leaves to be told
pub record Call : Type 0 where
  pub result : Result (Unit {0}) MatchError
  pub told : Option HalfMatch
  pub left : OverlappingMatches

-- Where nothing is left: a walk that quits says so once, and a start that is refused is refused again.
abbrev pub ending_call : Ending → Call
ending_call Ending.Ended = record { result = Ok tt; told = None; left = none_left Ending.Ended }
ending_call (Ending.Quits byte offset) =
    record { result = Err (MatchError.Quit byte offset); told = None; left = none_left Ending.Ended }
ending_call (Ending.Refused error) = record { result = Err error; told = None; left = none_left (Ending.Refused error) }

-- Else it tells the first item and leaves the others.
abbrev pub item_call : List Item → Ending → Call
item_call [] ending = ending_call ending
item_call (Item.Reported half_match ∷ items) ending =
    record { result = Ok tt; told = Some half_match; left = record { items = items; ending = ending } }
item_call (Item.Skipped ∷ items) ending =
    record { result = Ok tt; told = None; left = record { items = items; ending = ending } }

abbrev pub next_call : OverlappingMatches → Call
next_call matches = item_call matches.items matches.ending

-- a match that is told lies in the span and is of a pattern of the table
pub record IsTold (t : Table) (q : Query) (h : HalfMatch) : Type 0 where
  pub in_span : IsInSpan q h.offset
  pub pattern : h.pattern < t.pattern_len
