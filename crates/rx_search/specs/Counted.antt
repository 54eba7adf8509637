-- How many units a walk reads one by one, where it skips what may be skipped.
use Rattle.std.specs.Prelude.{ℕ, ◌≡◌, ◌≢◌, ◌+◌, ◌^◌, ◌<◌, ◌⊎◌, Bool, true, ◌||◌, ◌&&◌, if◌then◌else◌, List, [], ◌∷◌}
use Rattle.std.specs.Prelude.{length, Option, Some, Result, Ok}
use Rattle.rx_spec.specs.Queries.{Query, MatchError}
use Rattle.rx_spec.specs.Tables.{Table, is_match}
use Rattle.rx_spec.specs.HalfSearches.{units_of}
use Rattle.rx_spec.specs.declared.Direction.{Direction}
use Rattle.rx_search.specs.Labels.{is_quit}
use Rattle.rx_search.specs.Needles.{is_nil, is_read, byte_ahead}
use Rattle.rx_search.specs.Walks.{last_offset, bytes_left, units_left, units_after}

-- whether a walk ends at a row
abbrev pub ends_at : Table → Bool → ℕ → Bool
ends_at t earliest row = t.machine.is_dead row || is_quit t row || (is_match t row && earliest)

-- a unit counts where it is the last, the one past the span, or may not be skipped
abbrev pub counts : Table → (row unit : ℕ) → List ℕ → Bool
counts t row unit later = is_nil later || is_read t row unit

-- How many units count of those that a walk reads from a row on. The first match may end it.
unfoldable pub counted : Table → Bool → ℕ → List ℕ → ℕ
counted t earliest row [] = 0
counted t earliest row (unit ∷ units) =
    let next = t.machine.next row unit in
    (if counts t row unit units then 1 else 0)
    + (if ends_at t earliest next then 0 else counted t earliest next units)

-- a walk that stands at a row and an offset has skipped what may be skipped
abbrev pub IsReady : Table → Direction → Query → (row offset : ℕ) → Type 0
IsReady t direction q row offset =
    offset ≢ last_offset direction q → is_read t row (byte_ahead direction q.haystack offset) ≡ true

-- A counter has room for the units that count, where what may be skipped was skipped; or else for all that are left.
abbrev pub HasRoom : Table → Direction → Query → (row offset steps : ℕ) → Type 0
HasRoom t direction q row offset steps =
    (IsReady t direction q row offset × (steps + counted t q.earliest row (units_left direction q offset) < 2 ^ 64))
    ⊎ (steps + bytes_left direction q offset + 1 < 2 ^ 64)

-- A counter has room for the units of a whole search that count. Where it has room for all bytes of the haystack and
-- one more, it has.
abbrev pub HasRoomFor : Table → Direction → Query → (row steps : ℕ) → Type 0
HasRoomFor t direction q row steps =
    (steps + counted t q.earliest row (units_of direction q) < 2 ^ 64) ⊎ (steps + length q.haystack + 1 < 2 ^ 64)

-- how many units count of those that are left once a walk has stopped
abbrev pub counted_on : Table → Direction → Query → (row : ℕ) → Result (Option ℕ) MatchError → ℕ
counted_on t direction q row (Ok (Some offset)) =
    if ends_at t q.earliest row then 0 else counted t q.earliest row (units_after direction q offset)
counted_on t direction q row _ = 0
