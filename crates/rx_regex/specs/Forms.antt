-- Pairs of tables of either form, and matches by them.
use Rattle.std.specs.Prelude.{List, Result}
use Rattle.rx_spec.specs.Queries.{Match, MatchError}
use Rattle.rx_image.specs.Pairs.{Pair}
use Rattle.rx_regex.specs.declared.built_matches.FormMatches.{FormMatches}
use Rattle.rx_regex.specs.declared.tables.Tables.{Tables}

abbrev pub pair_of : Tables → Pair
pair_of (Tables.Dense pair) = Pair.Dense pair.forward pair.reverse
pair_of (Tables.Sparse pair) = Pair.Sparse pair.forward pair.reverse

-- the matches that are left
abbrev pub matches_left : FormMatches → List (Result Match MatchError)
matches_left (FormMatches.Dense matches) = matches
matches_left (FormMatches.Sparse matches) = matches
