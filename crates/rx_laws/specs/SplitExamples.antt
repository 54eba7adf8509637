-- Searches of a small table: splits passed over, and half searches joined.
use Rattle.std.specs.Prelude.{◌≡◌, ℕ, true, false, Some, None, Ok, Err, List, [], ◌∷◌, map, codes}
use Rattle.rx_spec.specs.Queries.{Anchored, MatchError}
use Rattle.rx_spec.specs.Overlapping.{Item, Ending}
use Rattle.rx_spec.specs.Splits.{is_split, half_unsplit, overlapping_unsplit}
use Rattle.rx_spec.specs.Joining.{join, joined_search}
use Rattle.rx_spec.specs.Iterating.{iterate}
use Rattle.rx_laws.specs.Samples.{byte, letter_forward, reverse_build, ask, anywhere, match_of, half_of, search}
use Rattle.rx_laws.specs.FoundExamples.{just}
use Rattle.rx_laws.specs.TableExamples.{everywhere}
use Rattle.rx_spec.specs.declared.Direction.{Direction}

-- a snowman, a character of three bytes
abbrev pub snowman : List ℕ
snowman = 226 ∷ 152 ∷ 131 ∷ []

abbrev pub SplitOffsets : Type 0
SplitOffsets = map (is_split snowman) (0 ∷ 1 ∷ 2 ∷ 3 ∷ []) ≡ false ∷ true ∷ true ∷ false ∷ []

-- inside a character a match gives way to the next one forward, or to the one before in reverse
abbrev pub SplitForward : Type 0
SplitForward =
    half_unsplit (everywhere true) Direction.Forward (ask Anchored.No snowman 1 3) ≡ Ok (Some (half_of 0 3))

abbrev pub SplitInReverse : Type 0
SplitInReverse =
    half_unsplit (everywhere true) Direction.Reverse (ask Anchored.No snowman 0 2) ≡ Ok (Some (half_of 0 0))

abbrev pub SplitAnchored : Type 0
SplitAnchored = half_unsplit (everywhere true) Direction.Forward (ask Anchored.Yes snowman 1 3) ≡ Ok None

abbrev pub SplitAllowed : Type 0
SplitAllowed =
    half_unsplit (everywhere false) Direction.Forward (ask Anchored.No snowman 1 3) ≡ Ok (Some (half_of 0 1))

-- in what is told it is left out, and in an anchored search it is skipped
abbrev pub SplitLeftOut : Type 0
SplitLeftOut =
    overlapping_unsplit (everywhere true) Direction.Forward (ask Anchored.No snowman 1 3)
    ≡ record { items = []; ending = Ending.Ended }

abbrev pub SplitSkipped : Type 0
SplitSkipped =
    overlapping_unsplit (everywhere true) Direction.Forward (ask Anchored.Yes snowman 1 3)
    ≡ record { items = Item.Skipped ∷ []; ending = Ending.Ended }

-- a forward and a reverse search of that table, joined, one match after another
abbrev pub EachCharacter : Type 0
EachCharacter =
    iterate (join (everywhere true) (everywhere true)) (anywhere snowman)
    ≡ just (match_of 0 0 0 ∷ match_of 0 3 3 ∷ [])

abbrev pub EachByte : Type 0
EachByte =
    iterate (join (everywhere false) (everywhere false)) (anywhere snowman)
    ≡ just (match_of 0 0 0 ∷ match_of 0 1 1 ∷ match_of 0 2 2 ∷ match_of 0 3 3 ∷ [])

-- the halves of two expressions don't fit: an end of a, and no start of b there
abbrev pub Mismatched : Type 0
Mismatched =
    joined_search (search letter_forward Direction.Forward) (search (reverse_build (byte 98 ∷ [])) Direction.Reverse)
    false (anywhere (codes "xa"))
    ≡ Err (MatchError.PairMismatch (half_of 0 2) None)
