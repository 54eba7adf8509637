-- Overlapping searches over a machine: they tell every pattern of every match row, one after another. The
-- names are those of regex-automata.
use Rattle.std.specs.Prelude.{ℕ, if◌then◌else◌, Option, Some, None, List, [], ◌∷◌, ◌++◌, map}
use Rattle.rx_spec.specs.Queries.{Query, HalfMatch, MatchError, is_done}
use Rattle.rx_spec.specs.Machines.{Label, Machine, Settings}
use Rattle.rx_spec.specs.Starts.{StartError, start_error, start_row}
use Rattle.rx_spec.specs.HalfSearches.{units_of, beside, first_offset, next_offset, unit_offset, match_error}
use Rattle.rx_spec.specs.declared.Direction.{Direction}

-- what one call tells: a half match, or nothing, where a match is passed over
pub data Item : Type 0 where
  Reported : (half_match : HalfMatch) → Item
  Skipped : Item

-- How it ends. A walk that quits says so once; a start that is refused is refused again and again.
pub data Ending : Type 0 where
  Ended : Ending
  Quits : (byte : ℕ) → (offset : ℕ) → Ending
  Refused : (error : MatchError) → Ending

-- what the calls tell, in the order of the walk, and how it ends
pub record OverlappingMatches : Type 0 where
  pub items : List Item
  pub ending : Ending

abbrev pub none_left : Ending → OverlappingMatches
none_left ending = record { items = []; ending = ending }

-- each pattern of a row, all at one offset
abbrev pub pattern_items : List ℕ → ℕ → List Item
pattern_items ks offset = map (λ k. Reported (record { pattern = k; offset = offset })) ks

abbrev pub label_items : Label → ℕ → List Item
label_items (Label.Matches ks) offset = pattern_items ks offset
label_items _ offset = []

abbrev pub with_items : List Item → OverlappingMatches → OverlappingMatches
with_items items later = record { items = items ++ later.items; ending = later.ending }

-- what a label adds that a unit has led to, in front of what is told later
abbrev pub at_item_label : Label → Direction → ℕ → ℕ → OverlappingMatches → OverlappingMatches
at_item_label Label.Quits direction unit offset later = none_left (Ending.Quits unit (unit_offset direction offset))
at_item_label label direction unit offset later = with_items (label_items label offset) later

-- what is told from a row on, over the units that are left
unfoldable pub overlapping_walk : {R : Type 0} → Machine R → Direction → R → ℕ → List ℕ → OverlappingMatches
overlapping_walk m direction row offset [] = none_left Ending.Ended
overlapping_walk m direction row offset (unit ∷ units) =
    let next = m.next row unit in
    at_item_label (m.label next) direction unit offset
    (if m.is_dead next then none_left Ending.Ended
    else overlapping_walk m direction next (next_offset direction offset) units)

-- What remains to be told from a row that was reached at an offset: those of its patterns that weren't told
-- yet, and then what the walk tells from there on.
abbrev pub remaining : {R : Type 0} → Machine R → Direction → List ℕ → ℕ → R → List ℕ → OverlappingMatches
remaining m direction pending offset row units =
    with_items (pattern_items pending offset) (overlapping_walk m direction row (next_offset direction offset) units)

abbrev pub overlapping_from : Direction → Query → Option StartError → OverlappingMatches → OverlappingMatches
overlapping_from direction q None matches = matches
overlapping_from direction q (Some error) matches = none_left (Ending.Refused (match_error direction q error))

-- what the walk over all that is read tells, from a row
abbrev pub whole_overlapping_walk : {R : Type 0} → Machine R → Direction → Query → R → OverlappingMatches
whole_overlapping_walk m direction q row =
    overlapping_walk m direction row (first_offset direction q) (units_of direction q)

-- What an overlapping search tells. Whether the first match will do isn't asked.
abbrev pub overlapping : {R : Type 0} → Machine R → Settings → Direction → Query → OverlappingMatches
overlapping m s direction q =
    if is_done q then none_left Ending.Ended
    else overlapping_from direction q (start_error s (beside direction q) q.mode)
    (whole_overlapping_walk m direction q (start_row m s (beside direction q) q.mode))
