-- Matches that split a character: a search in UTF-8 mode passes over them. A character is one of UTF-8, which
-- no byte from 0x80 to 0xBF begins (The Unicode Standard, table 3-6).
use Rattle.std.specs.Prelude.{ℕ, zero, suc, ◌+◌, ◌-◌, Bool, true, false, ◌==◌, ◌&&◌, ◌||◌, not, nat_lt, nat_le}
use Rattle.std.specs.Prelude.{if◌then◌else◌, Option, Some, None, Ok, Err, List, [], ◌∷◌}
use Rattle.std.specs.List.{flat_map}
use Rattle.rx_spec.specs.Looks.{after}
use Rattle.rx_spec.specs.Queries.{Query, is_anchored}
use Rattle.rx_spec.specs.HalfSearches.{HalfAnswer, half_search}
use Rattle.rx_spec.specs.Overlapping.{Item, OverlappingMatches, overlapping}
use Rattle.rx_spec.specs.Tables.{Table}
use Rattle.rx_spec.specs.declared.Direction.{Direction}

-- A character's boundary: the end of the haystack, or a byte that begins a character. Any other offset
-- splits one.
abbrev pub is_boundary_byte : Option ℕ → Bool
is_boundary_byte None = true
is_boundary_byte (Some byte) = nat_lt byte 128 || nat_le 192 byte

abbrev pub is_split : List ℕ → ℕ → Bool
is_split haystack offset = not (is_boundary_byte (after haystack offset))

-- the query that begins one later forward, and in reverse the one that ends one earlier
abbrev pub narrower : Direction → Query → Query
narrower Direction.Forward q = record q { start = q.start + 1 }
narrower Direction.Reverse q = record q { end = q.end - 1 }

-- whether there is none: in reverse at the end 0
abbrev pub is_narrowest : Direction → Query → Bool
is_narrowest Direction.Forward q = false
is_narrowest Direction.Reverse q = q.end == 0

-- A match that splits a character is none in an anchored search. In another it gives way to the search
-- made again.
abbrev pub unless_split : Direction → Query → HalfAnswer → HalfAnswer → HalfAnswer
unless_split direction q (Ok (Some half_match)) again =
    if is_split q.haystack half_match.offset
    then (if is_anchored q.mode || is_narrowest direction q then Ok None else again)
    else Ok (Some half_match)
unless_split direction q (Ok None) again = Ok None
unless_split direction q (Err error) again = Err error

-- the search made narrower by one again and again, at most so many times
unfoldable pub skip_splits : (Query → HalfAnswer) → Direction → ℕ → Query → HalfAnswer
skip_splits search direction zero q = Ok None
skip_splits search direction (suc n) q =
    unless_split direction q (search q) (skip_splits search direction n (narrower direction q))

-- as many times as the span has places, and once more
abbrev pub split_limit : Query → ℕ
split_limit q = q.end + 2 - q.start

-- whether matches that split a character are passed over
abbrev pub skips_splits : Table → Bool
skips_splits t = t.has_empty && t.is_utf8

-- a half search that passes them over
abbrev pub half_unsplit : Table → Direction → Query → HalfAnswer
half_unsplit t direction q =
    if skips_splits t
    then skip_splits (half_search t.machine t.settings direction) direction (split_limit q) q
    else half_search t.machine t.settings direction q

-- in what is told they are left out, and in an anchored search they are told as nothing
abbrev pub item_unsplit : Query → Item → List Item
item_unsplit q Item.Skipped = Item.Skipped ∷ []
item_unsplit q (Item.Reported half_match) =
    if is_split q.haystack half_match.offset
    then (if is_anchored q.mode then Item.Skipped ∷ [] else [])
    else (Item.Reported half_match ∷ [])

abbrev pub items_unsplit : Query → OverlappingMatches → OverlappingMatches
items_unsplit q matches = record { items = flat_map (item_unsplit q) matches.items; ending = matches.ending }

abbrev pub overlapping_unsplit : Table → Direction → Query → OverlappingMatches
overlapping_unsplit t direction q =
    let matches = overlapping t.machine t.settings direction q in
    if skips_splits t then items_unsplit q matches else matches
