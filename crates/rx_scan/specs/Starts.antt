-- The start states that a scanner keeps.
use Rattle.std.specs.Prelude.{ℕ, ◌≢◌, ◌<◌, List, Some, Ok, slice_index}
use Rattle.rx_spec.specs.Queries.{Anchored}
use Rattle.rx_spec.specs.Tables.{Table}
use Rattle.rx_search.specs.Starts.{Starts}

-- For each byte the id of the row where a match that begins behind it starts, or 0.
abbrev pub AreStarts : Table → List ℕ → (kept : List ℕ) → Type 0
AreStarts t ids kept = (byte : ℕ) → byte < 256 → slice_index kept byte ≢ 0
    → Starts t ids (record { beside = Some byte; mode = Anchored.Yes }) (Ok (slice_index kept byte))
