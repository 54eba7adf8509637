-- The matches one after another, as an iterator gives them.
use Rattle.std.specs.Prelude.{ℕ, zero, suc, ◌+◌, ◌-◌, Bool, false, ◌==◌, ◌&&◌, if◌then◌else◌, Option, Some, None, Ok}
use Rattle.std.specs.Prelude.{Err, List, [], ◌∷◌}
use Rattle.rx_spec.specs.Queries.{Query, Match, MatchError}
use Rattle.rx_spec.specs.Joining.{Answer}

-- an empty match where the last match ended is told already
abbrev pub is_repeat : Option ℕ → Match → Bool
is_repeat None found = false
is_repeat (Some last_end) found = (found.start == found.end) && (found.end == last_end)

-- then the search is made again, one later
abbrev pub unless_repeat : (Query → Answer) → Query → Option ℕ → Answer → Answer
unless_repeat search q last_end (Ok (Some found)) =
    if is_repeat last_end found then search (record q { start = q.start + 1 }) else Ok (Some found)
unless_repeat search q last_end (Ok None) = Ok None
unless_repeat search q last_end (Err error) = Err error

-- the matches, and the error that ended them, where one did
pub record FoundMatches : Type 0 where
  pub matches : List Match
  pub error : Option MatchError

abbrev pub and_then : Answer → (Match → FoundMatches) → FoundMatches
and_then (Ok None) others = record { matches = []; error = None }
and_then (Ok (Some found)) others = record { matches = found ∷ (others found).matches; error = (others found).error }
and_then (Err error) others = record { matches = []; error = Some error }

-- the matches from a query on, where the last one ended at a place, at most so many
unfoldable pub iterate_from : (Query → Answer) → ℕ → Query → Option ℕ → FoundMatches
iterate_from search zero q last_end = record { matches = []; error = None }
iterate_from search (suc n) q last_end =
    and_then (unless_repeat search q last_end (search q))
    (λ found. iterate_from search n (record q { start = found.end }) (Some found.end))

-- each match but the first ends after the one before, so there are no more than places in the span
abbrev pub iterate : (Query → Answer) → Query → FoundMatches
iterate search q = iterate_from search (q.end + 2 - q.start) q None
