-- What each call of a stream searcher returns and leaves.
use Rattle.std.specs.Prelude.{ℕ, ◌≡◌, ◌≤◌, ◌+◌, Bool, true, false, Option, Some, None, List, []}
use Rattle.std.specs.Prelude.{◌∷◌, ◌++◌, length, drop}
use Rattle.rx_spec.specs.Bytes.{AreBytes}
use Rattle.rx_spec.specs.Queries.{Anchored, HalfMatch, MatchError}
use Rattle.rx_spec.specs.Starts.{StartError, mode_error}
use Rattle.rx_spec.specs.Tables.{Table}
use Rattle.rx_stream.specs.Remaining.{pending, remaining, now, told, told_now}
use Rattle.rx_stream.specs.declared.event.Fed.{Fed}
use Rattle.rx_stream.specs.declared.event.StreamEvent.{StreamEvent}
use Rattle.rx_stream.specs.declared.place.Place.{Place}
use Rattle.rx_stream.specs.declared.place.Stage.{Stage}

-- ---- stages

abbrev pub is_open : Stage → Bool
is_open Stage.Open = true
is_open _ = false

abbrev pub is_ended : Stage → Bool
is_ended Stage.Ended = true
is_ended _ = false

abbrev pub closed : Stage → Stage
closed Stage.Open = Stage.Closed
closed stage = stage

-- ---- new

-- At the beginning of a text all of it remains to be told.
pub record IsNew (t : Table) (ids : List ℕ) (mode : Anchored) (place : Place) : Type 0 where
  pub supported : mode_error t.settings mode ≡ None
  pub begins_open : is_open place.stage ≡ true
  pub taken : place.taken ≡ 0
  pub tells : (bytes : List ℕ) → AreBytes bytes → remaining t ids place bytes ≡ told t mode bytes
  pub tells_now : (bytes : List ℕ) → now t ids place bytes ≡ told_now t mode bytes

-- the mode has no starts
pub record IsUnsupported (t : Table) (mode : Anchored) (error : MatchError) : Type 0 where
  pub refused : mode_error t.settings mode ≡ Some (StartError.UnsupportedAnchored mode)
  pub named : error ≡ MatchError.UnsupportedAnchored mode

-- ---- feed

-- an event, if there is one, and what is told after it
abbrev pub with_event : Option StreamEvent → List StreamEvent → List StreamEvent
with_event None later = later
with_event (Some event) later = event ∷ later

-- A piece was read from a place in it on, up to an event or its end. Whatever follows, what remained is the event
-- and what remains now. No event that the bytes decide is told later.
pub record IsFed (t : Table) (ids : List ℕ) (old new : Place) (piece : List ℕ) (from : ℕ) (fed : Fed) : Type 0 where
  pub low : from ≤ fed.used
  pub high : fed.used ≤ length piece
  pub stays_open : is_open new.stage ≡ true
  pub taken : new.taken + from ≡ old.taken + fed.used
  pub tells : (more : List ℕ) → AreBytes more
      → remaining t ids old (drop from piece ++ more)
      ≡ with_event fed.event (remaining t ids new (drop fed.used piece ++ more))
  pub tells_now : (more : List ℕ) → AreBytes more
      → now t ids old (drop from piece ++ more) ≡ with_event fed.event (now t ids new (drop fed.used piece ++ more))
  pub over : fed.event ≡ None → fed.used ≡ length piece
  pub on_time : fed.event ≡ None → now t ids old (drop from piece) ≡ []

-- ---- finish

-- The text is at its end: the first event that remains is told, if there is one, and no piece may follow.
pub record IsFinished (t : Table) (ids : List ℕ) (old new : Place) (event : Option StreamEvent) : Type 0 where
  pub is_closed : is_open new.stage ≡ false
  pub taken : new.taken ≡ old.taken
  pub tells : remaining t ids old [] ≡ with_event event (remaining t ids new [])
  pub none : event ≡ None → remaining t ids old [] ≡ []

-- ---- what both begin with

-- The next pattern of the row is told, if one is left.
abbrev pub IsNextPattern : Table → List ℕ → Place → Place → Option HalfMatch → Type 0
IsNextPattern t ids old new None = (new ≡ old) × (pending t ids old ≡ [])
IsNextPattern t ids old new (Some found) =
    (new ≡ record old { told = old.told + 1 })
    × (found.offset ≡ old.offset) × (pending t ids old ≡ found.pattern ∷ pending t ids new)
