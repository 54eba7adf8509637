-- Where the answers of a search lie, and what they depend on.
use Rattle.std.specs.Prelude.{ℕ, zero, suc, ◌≡◌, ◌+◌, ◌-◌, ◌<◌, ◌≤◌, ◌⊎◌, true, false, Some, Ok, Err, List, length}
use Rattle.std.specs.Prelude.{take, slice_get, Contains, All}
use Rattle.rx_spec.specs.Bytes.{AreBytes, contains}
use Rattle.rx_spec.specs.Looks.{before, after}
use Rattle.rx_spec.specs.Expressions.{Expression, IsLoopSafe}
use Rattle.rx_spec.specs.Queries.{Query, IsFit, Match, HalfMatch, MatchError}
use Rattle.rx_spec.specs.Builds.{Build}
use Rattle.rx_spec.specs.Machines.{run}
use Rattle.rx_spec.specs.Starts.{start_row}
use Rattle.rx_spec.specs.Tables.{Table, IsSound}
use Rattle.rx_spec.specs.HalfSearches.{span_bytes, units_of, beside, half_search}
use Rattle.rx_spec.specs.Overlapping.{Item, Ending, overlapping}
use Rattle.rx_spec.specs.Splits.{narrower, skips_splits, half_unsplit, overlapping_unsplit}
use Rattle.rx_spec.specs.Joining.{back_from, join}
use Rattle.rx_spec.specs.Iterating.{iterate}
use Rattle.rx_plan.specs.Plans.{Plan, outcome}
use Rattle.rx_spec.specs.declared.Direction.{Direction}
use Rattle.rx_meaning.specs.Preference.{build_half_search}

-- ---- what is told

-- a match of one of the patterns, at an offset of the span
pub record IsInBounds (q : Query) (pattern_len : ℕ) (h : HalfMatch) : Type 0 where
  pub low : q.start ≤ h.offset
  pub high : h.offset ≤ q.end
  pub pattern : h.pattern < pattern_len

-- A sound table tells no other, whether it passes over matches that split a character or not.
abbrev pub HalfInBounds : Type 0
HalfInBounds = (t : Table) → IsSound t → (direction : Direction) (q : Query) (h : HalfMatch) → AreBytes q.haystack
    → half_search t.machine t.settings direction q ≡ Ok (Some h) → IsInBounds q t.pattern_len h

abbrev pub HalfUnsplitInBounds : Type 0
HalfUnsplitInBounds = (t : Table) → IsSound t → (direction : Direction) (q : Query) (h : HalfMatch)
    → AreBytes q.haystack → half_unsplit t direction q ≡ Ok (Some h) → IsInBounds q t.pattern_len h

abbrev pub OverlappingInBounds : Type 0
OverlappingInBounds = (t : Table) → IsSound t → (direction : Direction) (q : Query) (h : HalfMatch)
    → AreBytes q.haystack → Contains (overlapping t.machine t.settings direction q).items (Item.Reported h)
    → IsInBounds q t.pattern_len h

abbrev pub OverlappingUnsplitInBounds : Type 0
OverlappingUnsplitInBounds = (t : Table) → IsSound t → (direction : Direction) (q : Query) (h : HalfMatch)
    → AreBytes q.haystack → Contains (overlapping_unsplit t direction q).items (Item.Reported h)
    → IsInBounds q t.pattern_len h

-- And a match that two of them tell together lies in the span too.
pub record IsMatchInBounds (q : Query) (pattern_len : ℕ) (m : Match) : Type 0 where
  pub low : q.start ≤ m.start
  pub order : m.start ≤ m.end
  pub high : m.end ≤ q.end
  pub pattern : m.pattern < pattern_len

abbrev pub JoinInBounds : Type 0
JoinInBounds = (f r : Table) → IsSound f → IsSound r → (q : Query) (m : Match) → AreBytes q.haystack
    → join f r q ≡ Ok (Some m) → IsMatchInBounds q f.pattern_len m

-- ---- where it quits

-- the byte at an offset of the span, or right before or after it
pub record IsNamed (q : Query) (byte offset : ℕ) : Type 0 where
  pub low : q.start ≤ offset + 1
  pub high : offset ≤ q.end
  pub there : slice_get q.haystack offset ≡ Some byte

-- where a search stands that has read so many units
abbrev pub row_after : Table → Direction → Query → ℕ → ℕ
row_after t direction q count =
    run t.machine.next (start_row t.machine t.settings (beside direction q) q.mode) (take count (units_of direction q))

-- how many units a search reads before the one at an offset
abbrev pub read_before : Direction → Query → ℕ → ℕ
read_before Direction.Forward q offset = offset - q.start
read_before Direction.Reverse q offset = q.end - 1 - offset

-- It stands beside the span and can't be searched, or it leads to quit from the row in which the search reads it.
abbrev pub Quitting : Table → Direction → Query → (byte offset : ℕ) → Type 0
Quitting t direction q byte offset =
    ((beside direction q ≡ Some byte) × (contains t.settings.quit byte ≡ true))
    ⊎ (t.machine.next (row_after t direction q (read_before direction q offset)) byte ≡ 1)

-- A sound table that quits names such a byte, where it is searched and where its start is refused.
abbrev pub HalfQuits : Type 0
HalfQuits = (t : Table) → IsSound t → (direction : Direction) (q : Query) (byte offset : ℕ)
    → IsFit q → AreBytes q.haystack → half_search t.machine t.settings direction q ≡ Err (MatchError.Quit byte offset)
    → IsNamed q byte offset × Quitting t direction q byte offset

-- the query made narrower by one, so many times
unfoldable pub narrowed : Direction → ℕ → Query → Query
narrowed direction zero q = q
narrowed direction (suc n) q = narrowed direction n (narrower direction q)

-- Where a match that splits a character is passed over, the search is made again over less of the span, and any of
-- these searches may quit.
pub record QuittingAgain (t : Table) (direction : Direction) (q : Query) (byte offset : ℕ) : Type 0 where
  pub count : ℕ
  pub once : skips_splits t ≡ false → count ≡ 0
  pub quitting : Quitting t direction (narrowed direction count q) byte offset

abbrev pub HalfUnsplitQuits : Type 0
HalfUnsplitQuits = (t : Table) → IsSound t → (direction : Direction) (q : Query) (byte offset : ℕ)
    → IsFit q → AreBytes q.haystack → half_unsplit t direction q ≡ Err (MatchError.Quit byte offset)
    → IsNamed q byte offset × QuittingAgain t direction q byte offset

abbrev pub OverlappingQuits : Type 0
OverlappingQuits = (t : Table) → IsSound t → (direction : Direction) (q : Query) (byte offset : ℕ)
    → IsFit q → AreBytes q.haystack
    → let ending = (overlapping t.machine t.settings direction q).ending in
    (ending ≡ Ending.Quits byte offset) ⊎ (ending ≡ Ending.Refused (MatchError.Quit byte offset))
    → IsNamed q byte offset × Quitting t direction q byte offset

abbrev pub OverlappingUnsplitQuits : Type 0
OverlappingUnsplitQuits = (t : Table) → IsSound t → (direction : Direction) (q : Query) (byte offset : ℕ)
    → IsFit q → AreBytes q.haystack
    → let ending = (overlapping_unsplit t direction q).ending in
    (ending ≡ Ending.Quits byte offset) ⊎ (ending ≡ Ending.Refused (MatchError.Quit byte offset))
    → IsNamed q byte offset × Quitting t direction q byte offset

-- Joined, the forward search does, or the one in reverse from the end that it told.
pub record QuittingBack (f r : Table) (q : Query) (byte offset : ℕ) : Type 0 where
  pub end : HalfMatch
  pub told : half_unsplit f Direction.Forward q ≡ Ok (Some end)
  pub quitting : QuittingAgain r Direction.Reverse (back_from q end.offset) byte offset

abbrev pub JoinQuits : Type 0
JoinQuits = (f r : Table) → IsSound f → IsSound r → (q : Query) (byte offset : ℕ) → IsFit q → AreBytes q.haystack
    → join f r q ≡ Err (MatchError.Quit byte offset)
    → IsNamed q byte offset × (QuittingAgain f Direction.Forward q byte offset ⊎ QuittingBack f r q byte offset)

-- ---- what answers depend on

-- Two queries of one span, with the same bytes in it and the same neighbours of it.
pub record SameSpan (p q : Query) : Type 0 where
  pub start : p.start ≡ q.start
  pub end : p.end ≡ q.end
  pub mode : p.mode ≡ q.mode
  pub earliest : p.earliest ≡ q.earliest
  pub bytes : span_bytes p ≡ span_bytes q
  pub before : before p.haystack p.start ≡ before q.haystack q.start
  pub after : after p.haystack p.end ≡ after q.haystack q.end

-- They are answered alike, by any table and by any build.
abbrev pub SpanDecides : Type 0
SpanDecides = (t : Table) (direction : Direction) (p q : Query) → SameSpan p q
    → half_search t.machine t.settings direction p ≡ half_search t.machine t.settings direction q

abbrev pub SpanDecidesUnsplit : Type 0
SpanDecidesUnsplit = (t : Table) (direction : Direction) (p q : Query) → SameSpan p q
    → half_unsplit t direction p ≡ half_unsplit t direction q

abbrev pub SpanDecidesOverlapping : Type 0
SpanDecidesOverlapping = (t : Table) (direction : Direction) (p q : Query) → SameSpan p q
    → overlapping t.machine t.settings direction p ≡ overlapping t.machine t.settings direction q

abbrev pub SpanDecidesOverlappingUnsplit : Type 0
SpanDecidesOverlappingUnsplit = (t : Table) (direction : Direction) (p q : Query) → SameSpan p q
    → overlapping_unsplit t direction p ≡ overlapping_unsplit t direction q

abbrev pub SpanDecidesJoin : Type 0
SpanDecidesJoin = (f r : Table) → IsSound f → (p q : Query) → AreBytes p.haystack → SameSpan p q
    → join f r p ≡ join f r q

abbrev pub SpanDecidesIterate : Type 0
SpanDecidesIterate = (f r : Table) → IsSound f → IsSound r → (p q : Query) → AreBytes p.haystack → SameSpan p q
    → iterate (join f r) p ≡ iterate (join f r) q

abbrev pub SpanDecidesBuild : Type 0
SpanDecidesBuild = (b : Build) (direction : Direction) (p q : Query) → SameSpan p q
    → build_half_search b direction p ≡ build_half_search b direction q

-- And so the same is to be answered.
abbrev pub SpanDecidesOutcome : Type 0
SpanDecidesOutcome = (p : Plan) (es : List Expression) (q r : Query) → All IsLoopSafe es
    → AreBytes q.haystack → q.end ≤ length q.haystack → AreBytes r.haystack → r.end ≤ length r.haystack
    → SameSpan q r → outcome p es q ≡ outcome p es r
