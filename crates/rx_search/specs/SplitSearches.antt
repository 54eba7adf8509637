-- Searches that pass over matches which split a character, from a first match on.
use Rattle.std.specs.Prelude.{ℕ, Some, Ok, List, if◌then◌else◌}
use Rattle.rx_spec.specs.Queries.{Query, HalfMatch}
use Rattle.rx_spec.specs.HalfSearches.{HalfAnswer}
use Rattle.rx_spec.specs.Overlapping.{OverlappingMatches}
use Rattle.rx_spec.specs.Splits.{narrower, unless_split, skip_splits, split_limit, skips_splits, items_unsplit}
use Rattle.rx_spec.specs.Tables.{Table}
use Rattle.rx_spec.specs.declared.Direction.{Direction}
use Rattle.rx_search.specs.OverlappingCalls.{remaining_matches}
use Rattle.rx_search.specs.declared.overlapping.OverlappingState.{OverlappingState}

-- Where a search of a query has told a match: that match, or else what the same search made narrower again and
-- again tells.
abbrev pub unsplit_from : (Query → HalfAnswer) → Direction → Query → HalfMatch → HalfAnswer
unsplit_from search direction q first =
    unless_split direction q (Ok (Some first))
    (skip_splits search direction (split_limit (narrower direction q)) (narrower direction q))

-- what remains of an overlapping search where a table passes them over
abbrev pub unsplit_matches : Table → Query → OverlappingMatches → OverlappingMatches
unsplit_matches t q matches = if skips_splits t then items_unsplit q matches else matches

abbrev pub remaining_unsplit : Table → List ℕ → Direction → Query → OverlappingState → OverlappingMatches
remaining_unsplit t ids direction q state = unsplit_matches t q (remaining_matches t ids direction q state)
