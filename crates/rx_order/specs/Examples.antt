-- Three rows that each move on by one place, so that no two of them exchange places. And five rows by their kinds.
use Rattle.std.specs.Prelude.{[], ◌∷◌, List, ℕ, slice_index}
use Rattle.rx_order.specs.Transitions.{Transitions}
use Rattle.rx_order.specs.Renaming.{Arrangement, IsRearranged, IsRenamed}
use Rattle.rx_order.specs.SpecialIds.{AreKindEnds}

-- Ids are even. Row 0 leads to itself, row 1 on to row 2, and row 2 back to row 1 and on to itself.
abbrev pub three_rows : Transitions
three_rows = record { rows = (0 ∷ 0 ∷ []) ∷ (4 ∷ 0 ∷ []) ∷ (2 ∷ 4 ∷ []) ∷ []; starts = 2 ∷ []; stride2 = 1 }

-- the last row lies first, then row 0, then row 1
abbrev pub last_first : Arrangement
last_first = record { rows = 2 ∷ 0 ∷ 1 ∷ []; stride2 = 1 }

abbrev pub three_rearranged : Transitions
three_rearranged = record { rows = (2 ∷ 4 ∷ []) ∷ (0 ∷ 0 ∷ []) ∷ (4 ∷ 0 ∷ []) ∷ []; starts = 2 ∷ []; stride2 = 1 }

-- row 0 is called 2 now, row 1 is called 4, and row 2 is called 0
abbrev pub three_renamed : Transitions
three_renamed = record { rows = (4 ∷ 0 ∷ []) ∷ (2 ∷ 2 ∷ []) ∷ (0 ∷ 2 ∷ []) ∷ []; starts = 4 ∷ []; stride2 = 1 }

abbrev pub ThreeRearranged : Type 0
ThreeRearranged = IsRearranged last_first three_rows three_rearranged

abbrev pub ThreeRenamed : Type 0
ThreeRenamed = IsRenamed last_first three_rows three_renamed

-- dead, quit, two match rows, and a row that isn't special
abbrev pub five_kinds : List ℕ
five_kinds = 0 ∷ 1 ∷ 2 ∷ 2 ∷ 7 ∷ []

abbrev pub five_ends : List ℕ
five_ends = 1 ∷ 2 ∷ 4 ∷ 4 ∷ 4 ∷ 4 ∷ 4 ∷ 5 ∷ []

abbrev pub FiveByKind : Type 0
FiveByKind = AreKindEnds 5 (slice_index five_kinds) five_ends
