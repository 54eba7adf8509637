-- The two half searches joined: an end found forward, and its start found in reverse.
use Rattle.std.specs.Prelude.{ℕ, Bool, false, ◌==◌, ◌||◌, if◌then◌else◌, Option, Some, None, Result, Ok, Err}
use Rattle.rx_spec.specs.Queries.{Anchored, Query, Match, HalfMatch, MatchError, is_anchored}
use Rattle.rx_spec.specs.HalfSearches.{HalfAnswer}
use Rattle.rx_spec.specs.Splits.{half_unsplit}
use Rattle.rx_spec.specs.Tables.{Table}
use Rattle.rx_spec.specs.declared.Direction.{Direction}

-- what a search for a whole match answers
abbrev pub Answer : Type 0
Answer = Result (Option Match) MatchError

abbrev pub match_at : ℕ → ℕ → ℕ → Answer
match_at pattern start end = Ok (Some (record { pattern = pattern; start = start; end = end }))

-- the match for an end, by the start that the search in reverse gives
abbrev pub with_start : HalfMatch → HalfAnswer → Answer
with_start end (Ok None) = Err (MatchError.PairMismatch end None)
with_start end (Ok (Some start)) =
    if start.pattern == end.pattern
    then match_at end.pattern start.offset end.offset
    else Err (MatchError.PairMismatch end (Some start))
with_start end (Err error) = Err error

-- the query for the start of a match that ends at a place
abbrev pub back_from : Query → ℕ → Query
back_from q end = record q { end = end; mode = Anchored.Yes; earliest = false }

-- The match that ends where the forward search says. An end at the span's start is an empty match
-- there; an anchored search begins there, and so does one that begins with the text's edge alone; for
-- any other the start is searched in reverse.
abbrev pub with_end : (Query → HalfAnswer) → Bool → Query → HalfAnswer → Answer
with_end search_reverse always_anchored q (Ok None) = Ok None
with_end search_reverse always_anchored q (Ok (Some end)) =
    if (end.offset == q.start) || is_anchored q.mode || always_anchored
    then match_at end.pattern q.start end.offset
    else with_start end (search_reverse (back_from q end.offset))
with_end search_reverse always_anchored q (Err error) = Err error

-- a forward and a reverse search, joined
abbrev pub joined_search : (Query → HalfAnswer) → (Query → HalfAnswer) → Bool → Query → Answer
joined_search search_forward search_reverse always_anchored q =
    with_end search_reverse always_anchored q (search_forward q)

-- those of two tables
abbrev pub join : Table → Table → Query → Answer
join f r q =
    joined_search (half_unsplit f Direction.Forward) (half_unsplit r Direction.Reverse) f.is_always_start_anchored q
