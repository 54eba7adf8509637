-- Ids of a table's rows, and where a search of it starts.
use Rattle.std.specs.Prelude.{ℕ, ◌≡◌, ◌<◌, Option, Some, None, Result, Ok, Err, List, length, MatchResult}
use Rattle.rx_spec.specs.Ids.{row_of}
use Rattle.rx_spec.specs.Queries.{Query, Anchored, MatchError}
use Rattle.rx_spec.specs.Starts.{StartError, start_error, start_row}
use Rattle.rx_spec.specs.HalfSearches.{beside, match_error}
use Rattle.rx_spec.specs.Tables.{Table}
use Rattle.rx_spec.specs.declared.Direction.{Direction}
use Rattle.rx_base.specs.Search.{mode_of}
use Rattle.rx_base.specs.StartConfig.{StartConfig}
use Rattle.rx_search.specs.declared.start.StartError.{StartError as Refusal}

-- whether a number is the id of a row
abbrev pub IsId : List ℕ → ℕ → Type 0
IsId ids id = row_of ids id < length ids

-- the universal start of a mode; a pattern's starts have none
abbrev pub universal_start : Table → Anchored → Option ℕ
universal_start t Anchored.No = t.universal_unanchored
universal_start t Anchored.Yes = t.universal_anchored
universal_start t (Anchored.Pattern k) = None

-- a refused start, as the definitions have it
abbrev pub refusal_of : Refusal → StartError
refusal_of (Refusal.Quit byte) = StartError.Quit byte
refusal_of (Refusal.UnsupportedAnchored mode) = StartError.UnsupportedAnchored (mode_of mode)

-- Beside a byte and in a mode, a table answers the id of the row where it starts, or why it doesn't.
abbrev pub Starts : Table → List ℕ → StartConfig → Result ℕ Refusal → Type 0
Starts t ids config (Ok id) =
    (start_error t.settings config.beside config.mode ≡ None) × IsId ids id
    × (row_of ids id ≡ start_row t.machine t.settings config.beside config.mode)
Starts t ids config (Err refusal) = start_error t.settings config.beside config.mode ≡ Some (refusal_of refusal)

-- what refuses the start of a search
abbrev pub search_refusal : Table → Direction → Query → Option StartError
search_refusal t direction q = start_error t.settings (beside direction q) q.mode

-- a row is the one where a search starts that isn't refused
pub record IsStart (t : Table) (direction : Direction) (q : Query) (row : ℕ) : Type 0 where
  pub allowed : search_refusal t direction q ≡ None
  pub row_is : row ≡ start_row t.machine t.settings (beside direction q) q.mode

-- why a search doesn't start
pub record IsRefused (t : Table) (direction : Direction) (q : Query) (error : MatchError) : Type 0 where
  pub refusal : StartError
  pub refused : search_refusal t direction q ≡ Some refusal
  pub error_is : error ≡ match_error direction q refusal

-- A search starts at the id of that row, or answers why it doesn't.
abbrev pub StartsSearch : Table → List ℕ → Direction → Query → Result ℕ MatchError → Type 0
StartsSearch t ids direction q result =
    MatchResult result (λ id. IsId ids id × IsStart t direction q (row_of ids id)) (IsRefused t direction q)
