-- Walks over a piece of a text, whatever follows it.
use Rattle.std.specs.Prelude.{ℕ, ◌≡◌, ◌≤◌, ◌<◌, ◌+◌, ◌-◌, ◌==◌, true, false, List, ◌++◌, length, drop, slice_index}
use Rattle.rx_spec.specs.Ids.{row_of}
use Rattle.rx_spec.specs.Machines.{IsWord}
use Rattle.rx_spec.specs.Overlapping.{OverlappingMatches, Ending, none_left, pattern_items, with_items}
use Rattle.rx_spec.specs.Overlapping.{overlapping_walk}
use Rattle.rx_spec.specs.Tables.{Table, is_match}
use Rattle.rx_spec.specs.declared.Direction.{Direction}
use Rattle.rx_search.specs.Labels.{patterns_of, is_quit}
use Rattle.rx_search.specs.Needles.{is_read}
use Rattle.rx_search.specs.Starts.{IsId}
use Rattle.rx_stream.specs.declared.walk.Halt.{Halt}

abbrev pub walked : Table → ℕ → ℕ → List ℕ → OverlappingMatches
walked t row offset units = overlapping_walk t.machine Direction.Forward row offset units

-- The bytes between two places of a piece lead from a row to another and tell nothing: whatever follows, and
-- whatever the offset of the first. If the other row is a match row, it is still the first.
pub record IsQuietWalk (t : Table) (row : ℕ) (piece : List ℕ) (from next at : ℕ) : Type 0 where
  pub low : from ≤ at
  pub high : at ≤ length piece
  pub quiet : is_match t next ≡ true → next ≡ row
  pub goes_on : (offset : ℕ) (more : List ℕ) → IsWord more
      → walked t row offset (drop from piece ++ more) ≡ walked t next (offset + (at - from)) (drop at piece ++ more)

-- The bytes between two places of a piece may be skipped from a row.
pub record IsSkip (t : Table) (row : ℕ) (piece : List ℕ) (from to : ℕ) : Type 0 where
  pub low : from ≤ to
  pub high : to ≤ length piece
  pub skipped : (k : ℕ) → from ≤ k → k < to → is_read t row (slice_index piece k) ≡ false

-- The byte at a place leads to a match row, which tells its patterns.
pub record MeetsMatch (t : Table) (row : ℕ) (piece : List ℕ) (from next at : ℕ) : Type 0 where
  pub low : from ≤ at
  pub high : at < length piece
  pub is_match : is_match t next ≡ true
  pub tells : (offset : ℕ) (more : List ℕ) → IsWord more
      → walked t row offset (drop from piece ++ more)
      ≡ with_items (pattern_items (patterns_of t next) (offset + (at - from)))
      (walked t next (offset + (at - from) + 1) (drop (at + 1) piece ++ more))

-- The byte at a place is a quit byte.
pub record MeetsQuit (t : Table) (row : ℕ) (piece : List ℕ) (from next byte at : ℕ) : Type 0 where
  pub low : from ≤ at
  pub high : at < length piece
  pub is_quit : is_quit t next ≡ true
  pub tells : (offset : ℕ) (more : List ℕ) → IsWord more
      → walked t row offset (drop from piece ++ more) ≡ none_left (Ending.Quits byte (offset + (at - from)))

-- A row that tells nothing, from which a walk goes on.
pub record IsPassedBy (t : Table) (row : ℕ) : Type 0 where
  pub no_match : is_match t row ≡ false
  pub no_quit : is_quit t row ≡ false
  pub alive : (row == 0) ≡ false

-- A row at which a walk halts, where the byte at a place led to it.
abbrev pub IsMetBy : Table → List ℕ → (row byte at : ℕ) → Halt → Type 0
IsMetBy t ids row byte at (Halt.Match next place) =
    (next ≡ row) × (place ≡ at) × (is_match t (row_of ids row) ≡ true)
IsMetBy t ids row byte at (Halt.Quit next read place) =
    (next ≡ row) × (read ≡ byte) × (place ≡ at) × (is_quit t (row_of ids row) ≡ true)
IsMetBy t ids row byte at (Halt.End next) =
    (next ≡ row) × (is_match t (row_of ids row) ≡ false) × (is_quit t (row_of ids row) ≡ false)
    × ((row_of ids row == 0) ≡ true)

-- where a walk over a piece halts
abbrev pub HaltsAt : Table → List ℕ → ℕ → List ℕ → ℕ → Halt → Type 0
HaltsAt t ids row piece from (Halt.Match next at) =
    IsId ids next × MeetsMatch t row piece from (row_of ids next) at
HaltsAt t ids row piece from (Halt.Quit next byte at) =
    IsId ids next × MeetsQuit t row piece from (row_of ids next) byte at
HaltsAt t ids row piece from (Halt.End next) =
    IsId ids next × IsQuietWalk t row piece from (row_of ids next) (length piece)
