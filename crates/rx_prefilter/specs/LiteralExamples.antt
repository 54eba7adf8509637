-- Worked examples: where the literal ab first lies in the text xabab.
use Rattle.std.specs.Prelude.{ℕ, ◌≡◌, false, List, Ok, None, Some, codes}
use Rattle.rx_spec.specs.Joining.{join}
use Rattle.rx_spec.specs.Queries.{Anchored, Query}
use Rattle.rx_spec.specs.Tables.{Table}
use Rattle.rx_prefilter.specs.OnlyLiterals.{IsFirstPlace, SearchesFor}

abbrev pub text : List ℕ
text = codes "xabab"

abbrev pub literal : List ℕ
literal = codes "ab"

-- a search that may begin anywhere
abbrev pub asked : (start end : ℕ) → Query
asked start end = record {
  haystack = text;
  start = start;
  end = end;
  mode = Anchored.No;
  earliest = false;
}

-- of two places the first
abbrev pub InText : Type 0
InText = IsFirstPlace text literal 0 5 (Some 1)

abbrev pub BehindTheFirst : Type 0
BehindTheFirst = IsFirstPlace text literal 2 5 (Some 3)

-- the second one isn't all in the span
abbrev pub CutBySpan : Type 0
CutBySpan = IsFirstPlace text literal 2 4 None

-- A pair of tables that searches for the literal tells its match there, or none.
abbrev pub FindsIt : Type 0
FindsIt = (forward reverse : Table) (pattern : ℕ) → SearchesFor forward reverse literal pattern
    → join forward reverse (asked 2 5) ≡ Ok (Some (record { pattern = pattern; start = 3; end = 5 }))

abbrev pub FindsNone : Type 0
FindsNone = (forward reverse : Table) (pattern : ℕ) → SearchesFor forward reverse literal pattern
    → join forward reverse (asked 2 4) ≡ Ok None
