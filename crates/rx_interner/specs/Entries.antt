-- How links are kept: their keys are spans of one list of words.
use Rattle.std.specs.Prelude.{ℕ, List, ◌≤◌, All, length, slice_range}
use Rattle.rx_interner.specs.Links.{Link}
use Rattle.rx_interner.specs.declared.links.Entry.{Entry}

-- the link that an entry names
abbrev pub link_in : List ℕ → Entry → Link
link_in words entry = record { key = slice_range words entry.start entry.end; older = entry.older }

abbrev pub IsSpan : List ℕ → Entry → Type 0
IsSpan words entry = (entry.start ≤ entry.end) × (entry.end ≤ length words)

-- each entry names a span of the words
abbrev pub AreSpans : List ℕ → List Entry → Type 0
AreSpans words entries = All (IsSpan words) entries
