-- What a stream searcher has left to report, by the walk of overlapping searches.
use Rattle.std.specs.Prelude.{ℕ, false, None, List, [], ◌∷◌, ◌++◌, length, drop}
use Rattle.std.specs.List.{flat_map}
use Rattle.rx_spec.specs.Bytes.{eoi}
use Rattle.rx_spec.specs.Ids.{row_of}
use Rattle.rx_spec.specs.Queries.{Anchored, Query}
use Rattle.rx_spec.specs.Overlapping.{Item, Ending, OverlappingMatches, pattern_items, with_items}
use Rattle.rx_spec.specs.Overlapping.{overlapping_walk, overlapping}
use Rattle.rx_spec.specs.Starts.{start_row}
use Rattle.rx_spec.specs.Tables.{Table}
use Rattle.rx_spec.specs.declared.Direction.{Direction}
use Rattle.rx_search.specs.Labels.{patterns_of}
use Rattle.rx_stream.specs.declared.event.StreamEvent.{StreamEvent}
use Rattle.rx_stream.specs.declared.place.Place.{Place}
use Rattle.rx_stream.specs.declared.place.Stage.{Stage}

-- ---- events: what an overlapping search tells, in order, and the quit byte that ended it

abbrev pub item_events : Item → List StreamEvent
item_events (Item.Reported half_match) = StreamEvent.Match half_match ∷ []
item_events Item.Skipped = []

abbrev pub ending_events : Ending → List StreamEvent
ending_events (Ending.Quits byte offset) = StreamEvent.Quit byte offset ∷ []
ending_events _ = []

abbrev pub events : OverlappingMatches → List StreamEvent
events matches = flat_map item_events matches.items ++ ending_events matches.ending

-- what is told of a whole text
abbrev pub whole : List ℕ → Anchored → Query
whole bytes mode = record { haystack = bytes; start = 0; end = length bytes; mode = mode; earliest = false }

abbrev pub told : Table → Anchored → List ℕ → List StreamEvent
told t mode bytes = events (overlapping t.machine t.settings Direction.Forward (whole bytes mode))

-- and what is told of it before its end is read, in a mode that has starts
abbrev pub told_now : Table → Anchored → List ℕ → List StreamEvent
told_now t mode bytes =
    events (overlapping_walk t.machine Direction.Forward (start_row t.machine t.settings None mode) 0 bytes)

-- ---- places: the patterns of the row that weren't told yet, and then what the walk tells from there on

abbrev pub pending : Table → List ℕ → Place → List ℕ
pending t ids place = drop place.told (patterns_of t (row_of ids place.row))

abbrev pub told_over : Table → List ℕ → Place → List ℕ → OverlappingMatches
told_over t ids place units =
    with_items (pattern_items (pending t ids place) place.offset)
    (overlapping_walk t.machine Direction.Forward (row_of ids place.row) place.taken units)

-- What remains to be told where exactly these bytes follow, and then the end mark. Where the end mark is read,
-- only the patterns of its row remain.
abbrev pub units_to : Stage → List ℕ → List ℕ
units_to Stage.Ended bytes = []
units_to _ bytes = bytes ++ (eoi ∷ [])

abbrev pub remaining : Table → List ℕ → Place → List ℕ → List StreamEvent
remaining t ids place bytes = events (told_over t ids place (units_to place.stage bytes))

-- That part of it which is told before the end mark is read.
abbrev pub now_at : Stage → Table → List ℕ → Place → List ℕ → List StreamEvent
now_at Stage.Ended t ids place bytes = []
now_at _ t ids place bytes = events (told_over t ids place bytes)

abbrev pub now : Table → List ℕ → Place → List ℕ → List StreamEvent
now t ids place bytes = now_at place.stage t ids place bytes
