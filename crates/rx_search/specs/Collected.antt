-- Which patterns an overlapping search adds to a set, and how that ends.
use Rattle.std.specs.Prelude.{Bool, true, ◌==◌, ◌||◌, if◌then◌else◌, Result, Ok, Err, List, [], ◌∷◌, length, slice_set}
use Rattle.rx_spec.specs.Queries.{MatchError}
use Rattle.rx_spec.specs.Overlapping.{Item, Ending}
use Rattle.rx_base.specs.PatternSet.{pattern_count}

pub record Collected : Type 0 where
  pub result : Result (Unit {0}) MatchError
  pub set : List Bool

abbrev pub ending_result : Ending → Result (Unit {0}) MatchError
ending_result Ending.Ended = Ok tt
ending_result (Ending.Quits byte offset) = Err (MatchError.Quit byte offset)
ending_result (Ending.Refused error) = Err error

abbrev pub is_full : List Bool → Bool
is_full set = pattern_count set == length set

-- Each pattern that is told is added, up to the first call that tells nothing, until the set is full, or until the
-- first where that will do.
unfoldable pub collected : Bool → List Item → Ending → List Bool → Collected
collected earliest [] ending set = record { result = ending_result ending; set = set }
collected earliest (Item.Skipped ∷ items) ending set = record { result = Ok tt; set = set }
collected earliest (Item.Reported half_match ∷ items) ending set =
    let more = slice_set set half_match.pattern true in
    if is_full more || earliest then record { result = Ok tt; set = more }
    else collected earliest items ending more
