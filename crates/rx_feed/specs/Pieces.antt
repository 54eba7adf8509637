-- What a searcher reports of a piece of a text, and what is written of it.
use Rattle.std.specs.Prelude.{ℕ, ◌≡◌, ◌+◌, true, List, [], ◌∷◌, ◌++◌, length, All}
use Rattle.std.specs.Io.KnownBytes.{Appends}
use Rattle.rx_spec.specs.Bytes.{AreBytes}
use Rattle.rx_spec.specs.Tables.{Table}
use Rattle.rx_stream.specs.Calls.{is_open}
use Rattle.rx_stream.specs.Remaining.{remaining, now}
use Rattle.rx_stream.specs.declared.event.StreamEvent.{StreamEvent}
use Rattle.rx_stream.specs.declared.place.Place.{Place}
use Rattle.rx_feed.specs.Lines.{IsMatch, event_line, lines}
use Rattle.rx_feed.specs.Outside.{AppendsThenFront, Written}
use Rattle.rx_feed.specs.declared.piece.PieceEnd.{PieceEnd}

-- A piece is read to its end. Its events are matches, and their lines are written.
pub record IsRead (t : Table) (ids : List ℕ) (old new : Place) (piece : List ℕ) (written : Written) : Type 0 where
  pub still_open : is_open new.stage ≡ true
  pub taken : new.taken ≡ old.taken + length piece
  pub tells : (more : List ℕ) → AreBytes more
      → remaining t ids old (piece ++ more) ≡ now t ids old piece ++ remaining t ids new more
  pub tells_now : (more : List ℕ) → AreBytes more
      → now t ids old (piece ++ more) ≡ now t ids old piece ++ now t ids new more
  pub matches : All IsMatch (now t ids old piece)
  pub lines : Appends written.before written.after (lines (now t ids old piece))

-- A quit byte ends the events of a piece. The lines of the matches before it are written.
pub record MeetsQuit (t : Table) (ids : List ℕ) (old : Place) (piece : List ℕ) (written : Written) (byte offset : ℕ)
    : Type 0 where
  pub told : List StreamEvent
  pub matches : All IsMatch told
  pub tells : now t ids old piece ≡ told ++ (StreamEvent.Quit byte offset ∷ [])
  pub lines : Appends written.before written.after (lines told)

-- The sink failed at the line of one of the matches.
pub record IsBroken (t : Table) (ids : List ℕ) (old : Place) (piece : List ℕ) (written : Written) : Type 0 where
  pub told : List StreamEvent
  pub event : StreamEvent
  pub later : List StreamEvent
  pub tells : now t ids old piece ≡ told ++ (event ∷ later)
  pub is_match : IsMatch event
  pub lines : AppendsThenFront written.before written.after (lines told) (event_line event)

abbrev pub EndsAt : Table → List ℕ → Place → Place → List ℕ → Written → PieceEnd → Type 0
EndsAt t ids old new piece written PieceEnd.Over = IsRead t ids old new piece written
EndsAt t ids old new piece written (PieceEnd.Quit byte offset) = MeetsQuit t ids old piece written byte offset
EndsAt t ids old new piece written PieceEnd.Failed = IsBroken t ids old piece written
