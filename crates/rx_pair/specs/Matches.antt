-- What a search of a pair and its iterator return.
use Rattle.std.specs.Prelude.{◌+◌, ◌-◌, Bool, Option, Some, None, is_some, Result, Ok, Err, List, [], ◌∷◌, ◌++◌, map}
use Rattle.rx_spec.specs.HalfSearches.{HalfAnswer}
use Rattle.rx_spec.specs.Iterating.{FoundMatches, iterate_from}
use Rattle.rx_spec.specs.Joining.{Answer}
use Rattle.rx_spec.specs.Queries.{Query, Match, MatchError}
use Rattle.rx_base.specs.Searcher.{Search}

-- whether a search found something
abbrev pub is_found : HalfAnswer → Result Bool MatchError
is_found (Ok end) = Ok (is_some end)
is_found (Err error) = Err error

-- what an iterator gives: each match, and then the error that ended them, where one did
abbrev pub items : FoundMatches → List (Result Match MatchError)
items found = map Ok found.matches ++ errors found.error
  where
    errors : Option MatchError → List (Result Match MatchError)
    errors None = []
    errors (Some error) = Err error ∷ []

-- those of what is left to search
abbrev pub matches_left : (Query → Answer) → Search → FoundMatches
matches_left search s = iterate_from search (s.query.end + 2 - s.query.start) s.query s.last_end
