-- Texts cut into pieces: how a caller feeds and finishes them, and what all calls together report.
use Rattle.std.specs.Prelude.{ℕ, ◌≡◌, Some, None, Ok, Err, true, List, [], ◌∷◌, ◌++◌, drop, All}
use Rattle.std.specs.List.{concat}
use Rattle.rx_spec.specs.Bytes.{AreBytes}
use Rattle.rx_spec.specs.Ids.{row_of}
use Rattle.rx_spec.specs.Queries.{Anchored, MatchError}
use Rattle.rx_spec.specs.HalfSearches.{HalfAnswer, half_search}
use Rattle.rx_spec.specs.Overlapping.{OverlappingMatches}
use Rattle.rx_spec.specs.Starts.{mode_error}
use Rattle.rx_spec.specs.Tables.{Table, IsTable}
use Rattle.rx_spec.specs.declared.Direction.{Direction}
use Rattle.rx_stream.specs.Remaining.{events, remaining, now, told, whole}
use Rattle.rx_stream.specs.Calls.{IsNew, IsFed, IsFinished}
use Rattle.rx_stream.specs.declared.event.Fed.{Fed}
use Rattle.rx_stream.specs.declared.event.StreamEvent.{StreamEvent}
use Rattle.rx_stream.specs.declared.place.Place.{Place}

-- ---- calls in a row

-- Each call goes on from where the last one stopped: in the same piece after an event, else with the next piece.
pub data Feeds (t : Table) (ids : List ℕ) : Place → List ℕ → ℕ → List (List ℕ) → List StreamEvent → Place → Type 0 where
  Last : (old new : Place) (piece : List ℕ) (from : ℕ) (fed : Fed)
      → IsFed t ids old new piece from fed → fed.event ≡ None → Feeds t ids old piece from [] [] new
  Next : (old here new : Place) (piece next : List ℕ) (from : ℕ) (fed : Fed) (pieces : List (List ℕ))
      (events : List StreamEvent)
      → IsFed t ids old here piece from fed → fed.event ≡ None → Feeds t ids here next 0 pieces events new
      → Feeds t ids old piece from (next ∷ pieces) events new
  Told : (old here new : Place) (piece : List ℕ) (from : ℕ) (fed : Fed) (pieces : List (List ℕ))
      (event : StreamEvent) (events : List StreamEvent)
      → IsFed t ids old here piece from fed → fed.event ≡ Some event
      → Feeds t ids here piece fed.used pieces events new → Feeds t ids old piece from pieces (event ∷ events) new

-- The end is told until nothing is left.
pub data Finishes (t : Table) (ids : List ℕ) : Place → List StreamEvent → Type 0 where
  Over : (old new : Place) → IsFinished t ids old new None → Finishes t ids old []
  More : (old here : Place) (event : StreamEvent) (events : List StreamEvent)
      → IsFinished t ids old here (Some event) → Finishes t ids here events → Finishes t ids old (event ∷ events)

-- ---- laws

-- However a text is cut, all calls tell what an overlapping search of the whole tells,
abbrev pub CutTellsWhole : Type 0
CutTellsWhole = (t : Table) (ids : List ℕ) (mode : Anchored) (place here : Place) (piece : List ℕ)
    (pieces : List (List ℕ)) (fed finished : List StreamEvent)
    → IsNew t ids mode place → AreBytes piece → All AreBytes pieces
    → Feeds t ids place piece 0 pieces fed here → Finishes t ids here finished
    → fed ++ finished ≡ told t mode (piece ++ concat pieces)

-- and those before the end tell all that is told by then.
abbrev pub CutTellsNow : Type 0
CutTellsNow = (t : Table) (ids : List ℕ) (old new : Place) (piece : List ℕ) (from : ℕ) (pieces : List (List ℕ))
    (fed : List StreamEvent)
    → AreBytes piece → All AreBytes pieces → Feeds t ids old piece from pieces fed new
    → now t ids old (drop from piece ++ concat pieces) ≡ fed

-- What is told before the end is read is the first part of what is told.
abbrev pub NowIsFront : Type 0
NowIsFront = (t : Table) (ids : List ℕ) (place : Place) (bytes : List ℕ)
    → (later : List StreamEvent) × (remaining t ids place bytes ≡ now t ids place bytes ++ later)

-- A quit byte is the last event,
abbrev pub QuitIsLast : Type 0
QuitIsLast = (matches : OverlappingMatches) (byte offset : ℕ) (later : List StreamEvent)
    → events matches ≡ StreamEvent.Quit byte offset ∷ later → later ≡ []

-- so nothing remains after a call that told one.
abbrev pub QuitTellsNoMore : Type 0
QuitTellsNoMore = (t : Table) (ids : List ℕ) (old new : Place) (piece : List ℕ) (from : ℕ) (fed : Fed)
    (byte offset : ℕ) (more : List ℕ)
    → IsFed t ids old new piece from fed → fed.event ≡ Some (StreamEvent.Quit byte offset) → AreBytes more
    → remaining t ids new (drop fed.used piece ++ more) ≡ []

-- nor does anything remain from dead on
abbrev pub DeadTellsNothing : Type 0
DeadTellsNothing = (t : Table) (ids : List ℕ) (place : Place) (bytes : List ℕ)
    → IsTable t → row_of ids place.row ≡ 0 → AreBytes bytes → remaining t ids place bytes ≡ []

-- The first event is what a half search answers where the first match will do.
abbrev pub first_answer : List StreamEvent → HalfAnswer
first_answer [] = Ok None
first_answer (StreamEvent.Match found ∷ later) = Ok (Some found)
first_answer (StreamEvent.Quit byte offset ∷ later) = Err (MatchError.Quit byte offset)

abbrev pub FirstIsEarliest : Type 0
FirstIsEarliest = (t : Table) (mode : Anchored) (bytes : List ℕ)
    → IsTable t → AreBytes bytes → mode_error t.settings mode ≡ None
    → half_search t.machine t.settings Direction.Forward (record (whole bytes mode) { earliest = true })
    ≡ first_answer (told t mode bytes)
