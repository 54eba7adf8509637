-- The matches that an iterator gives, and the reply that lists them.
use Rattle.rx_spec.proofs.Prelude.{arith, ◌≡◌, List, [], ◌∷◌, ◌++◌, map, Option, Some, None, refl, ◌∙◌, append_assoc}
use Rattle.rx_spec.proofs.Prelude.{common_steps, Result, Ok, Err, flat_map, map-append, FoundMatches, Match, MatchError}
use Rattle.rx_pair.specs.Matches.{items}
use Rattle.rx_main.specs.Lines.{match_line, none_line, error_reply}
use Rattle.rx_main.specs.Each.{each_reply, matches_reply}

abbrev pub Item : Type 0
Item = Result Match MatchError

abbrev pub as_item : Match → Item
as_item m = Ok m

-- one more of what is left is given
pub told_more : (told : List Match) (m : Match) (left : List Item)
    → map as_item (told ++ m ∷ []) ++ left ≡ map as_item told ++ as_item m ∷ left
told_more told m left = grind (arith, common_steps, map-append, append_assoc)

-- ---- what was given says what was found

-- an error that ends the matches, as the iterator gives it
abbrev pub ended : Option MatchError → List Item
ended None = []
ended (Some error) = Err error ∷ []

pub items_are : (found : FoundMatches) → items found ≡ map Ok found.matches ++ ended found.error
items_are found = grind (arith, common_steps)

all_given : (told ms : List Match) (error : Option MatchError) → map Ok told ≡ map Ok ms ++ ended error
    → (ms ≡ told) × (error ≡ None)
all_given [] [] None e = (refl, refl)
all_given [] [] (Some error) e = absurd (cc)
all_given [] (m ∷ ms) error e = absurd (cc)
all_given (t ∷ told) [] None e = absurd (cc)
all_given (t ∷ told) [] (Some error) e = absurd (cc)
all_given (t ∷ told) (m ∷ ms) error e =
    let rest = all_given told ms error (cc) in
    let same : t ≡ m = cc in
    (cc, rest.1)

error_given : (told ms : List Match) (error : Option MatchError) (last : MatchError) (more : List Item)
    → map Ok told ++ Err last ∷ more ≡ map Ok ms ++ ended error → (ms ≡ told) × (error ≡ Some last)
error_given [] [] None last more e = absurd (cc)
error_given [] [] (Some error) last more e = (refl, cc)
error_given [] (m ∷ ms) error last more e = absurd (cc)
error_given (t ∷ told) [] None last more e = absurd (cc)
error_given (t ∷ told) [] (Some error) last more e = absurd (cc)
error_given (t ∷ told) (m ∷ ms) error last more e =
    let rest = error_given told ms error last more (cc) in
    let same : t ≡ m = cc in
    (cc, rest.1)

-- All that was given are matches: they are all that there are, and no error ends them.
pub found_all : (told : List Match) (found : FoundMatches) → map Ok told ≡ items found
    → (found.matches ≡ told) × (found.error ≡ None)
found_all told found e = all_given told found.matches found.error (e ∙ items_are found)

-- After some matches an error was given: that is the one which ends them.
pub found_before : (told : List Match) (last : MatchError) (more : List Item) (found : FoundMatches)
    → map Ok told ++ Err last ∷ more ≡ items found → (found.matches ≡ told) × (found.error ≡ Some last)
found_before told last more found e = grind (arith, common_steps, error_given, items_are)

-- ---- the reply

is_found : (found : FoundMatches) (told : List Match) (error : Option MatchError)
    → (found.matches ≡ told) × (found.error ≡ error) → each_reply found ≡ matches_reply told error
is_found found told error h = grind (arith, common_steps)

pub failed_reply : (told : List Match) (last : MatchError) (more : List Item) (found : FoundMatches)
    → map Ok told ++ Err last ∷ more ≡ items found
    → each_reply found ≡ error_reply (flat_map match_line told) last
failed_reply told last more found e = is_found found told (Some last) (found_before told last more found e)

-- no text was written where nothing was told, and only there
pub none_reply : (told : List Match) (found : FoundMatches) → map Ok told ≡ items found
    → flat_map match_line told ≡ [] → each_reply found ≡ record { text = none_line; status = 1 }
none_reply told found e empty = grind (arith, common_steps, is_found, found_all)

pub matches_told : (told : List Match) (found : FoundMatches) → map Ok told ≡ items found
    → (flat_map match_line told ≡ [] → ⊥)
    → each_reply found ≡ record { text = flat_map match_line told; status = 0 }
matches_told told found e some = grind (arith, common_steps, is_found, found_all)
