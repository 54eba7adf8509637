-- Laws of searches: starts, half searches and overlapping ones, splits passed over, and matches one after another.
use Rattle.std.specs.Prelude.{◌≡◌, ℕ, ◌+◌, ◌-◌, ◌<◌, ◌≤◌, ◌==◌, true, false, if◌then◌else◌, Option, Some, None, Ok}
use Rattle.std.specs.Prelude.{Err, List, [], ◌∷◌, All, AllPairs, fold}
use Rattle.rx_spec.specs.Bytes.{contains, AreBytes}
use Rattle.rx_spec.specs.Queries.{Anchored, Query, Match, HalfMatch, MatchError, is_done}
use Rattle.rx_spec.specs.Machines.{Label, Settings}
use Rattle.rx_spec.specs.Starts.{StartError, mode_error, start_error}
use Rattle.rx_spec.specs.Builds.{Build, power, build_settings}
use Rattle.rx_spec.specs.Tables.{Table, IsTable}
use Rattle.rx_spec.specs.HalfSearches.{HalfAnswer, next_offset, half_search}
use Rattle.rx_spec.specs.Overlapping.{Item, Ending, with_items, overlapping_walk, remaining}
use Rattle.rx_spec.specs.Overlapping.{overlapping}
use Rattle.rx_spec.specs.Splits.{narrower, unless_split, skip_splits, split_limit, skips_splits, half_unsplit}
use Rattle.rx_spec.specs.Joining.{Answer, join}
use Rattle.rx_spec.specs.Iterating.{FoundMatches, unless_repeat, and_then, iterate_from, iterate}
use Rattle.rx_spec.specs.declared.Direction.{Direction}

-- A start is refused by the byte beside the span where that quits, whatever the mode,
abbrev pub RefusedByByte : Type 0
RefusedByByte = (s : Settings) (byte : ℕ) (mode : Anchored) → contains s.quit byte ≡ true
    → start_error s (Some byte) mode ≡ Some (StartError.Quit byte)

-- and else by the mode alone.
abbrev pub RefusedByMode : Type 0
RefusedByMode = (s : Settings) (beside : Option ℕ) (mode : Anchored)
    → ((byte : ℕ) → beside ≡ Some byte → contains s.quit byte ≡ false) → start_error s beside mode ≡ mode_error s mode

-- a done query is answered before any start is asked for
abbrev pub DoneTellsNothing : Type 0
DoneTellsNothing = (t : Table) (direction : Direction) (q : Query) → is_done q ≡ true
    → half_search t.machine t.settings direction q ≡ Ok None

-- Of what an overlapping search tells, the first at the last offset: it is kept until another offset is told. No two
-- rows tell at one offset.
abbrev pub keep_first : Option HalfMatch → Item → Option HalfMatch
keep_first kept Item.Skipped = kept
keep_first None (Item.Reported half_match) = Some half_match
keep_first (Some kept) (Item.Reported half_match) =
    if kept.offset == half_match.offset then Some kept else Some half_match

abbrev pub half_answer : Ending → List Item → HalfAnswer
half_answer Ending.Ended items = Ok (fold keep_first None items)
half_answer (Ending.Quits byte offset) items = Err (MatchError.Quit byte offset)
half_answer (Ending.Refused error) items = Err error

-- That is what a half search tells, unless the first match will do: the first pattern of the last match row. And
-- where the one quits or is refused, so is the other.
abbrev pub HalfOfOverlapping : Type 0
HalfOfOverlapping = (t : Table) (direction : Direction) (q : Query)
    → IsTable t → AreBytes q.haystack → q.earliest ≡ false
    → half_search t.machine t.settings direction q
    ≡ (let told = overlapping t.machine t.settings direction q in half_answer told.ending told.items)

abbrev pub HalfOfOverlappingInBuild : Type 0
HalfOfOverlappingInBuild = (b : Build) (direction : Direction) (q : Query) → q.earliest ≡ false
    → half_search (power b) (build_settings b) direction q
    ≡ (let told = overlapping (power b) (build_settings b) direction q in half_answer told.ending told.items)

-- A unit leads from a row of a table to a match row of these patterns.
pub record LeadsToMatch (t : Table) (row unit : ℕ) (ks : List ℕ) : Type 0 where
  pub is_table : IsTable t
  pub row_below : row < t.size
  pub unit_fits : unit < 257
  pub label : t.machine.label (t.machine.next row unit) ≡ Label.Matches ks

-- There the row's patterns remain to be told, and what is told from there on.
abbrev pub RemainsAtMatch : Type 0
RemainsAtMatch = (t : Table) (direction : Direction) (row offset unit : ℕ) (units ks : List ℕ)
    → LeadsToMatch t row unit ks
    → overlapping_walk t.machine direction row offset (unit ∷ units)
    ≡ remaining t.machine direction ks offset (t.machine.next row unit) units

-- A call tells the first of them and leaves the others; after the last of a row the walk goes on.
abbrev pub RemainsAfterCall : Type 0
RemainsAfterCall = (t : Table) (direction : Direction) (k : ℕ) (ks : List ℕ) (offset row : ℕ) (units : List ℕ)
    → remaining t.machine direction (k ∷ ks) offset row units
    ≡ with_items (Item.Reported (record { pattern = k; offset = offset }) ∷ [])
    (remaining t.machine direction ks offset row units)

abbrev pub RemainsAfterRow : Type 0
RemainsAfterRow = (t : Table) (direction : Direction) (offset row : ℕ) (units : List ℕ)
    → remaining t.machine direction [] offset row units
    ≡ overlapping_walk t.machine direction row (next_offset direction offset) units

-- ---- splits passed over

abbrev pub NoneWhenDone : (Query → HalfAnswer) → Type 0
NoneWhenDone search = (q : Query) → is_done q ≡ true → search q ≡ Ok None

-- No bound cuts a search off that passes splits over: any from the stated one on gives the same,
abbrev pub SplitsUncut : Type 0
SplitsUncut = (search : Query → HalfAnswer) (direction : Direction) (n : ℕ) (q : Query) → NoneWhenDone search
    → split_limit q ≤ n → skip_splits search direction n q ≡ skip_splits search direction (split_limit q) q

-- and the search is that of the query, or else the one of the narrower query.
abbrev pub SplitsAgain : Type 0
SplitsAgain = (search : Query → HalfAnswer) (direction : Direction) (q : Query) → NoneWhenDone search
    → skip_splits search direction (split_limit q) q
    ≡ (let less = narrower direction q in
    unless_split direction q (search q) (skip_splits search direction (split_limit less) less))

abbrev pub UnsplitAgain : Type 0
UnsplitAgain = (t : Table) (direction : Direction) (q : Query) → skips_splits t ≡ true
    → half_unsplit t direction q
    ≡ unless_split direction q (half_search t.machine t.settings direction q)
    (half_unsplit t direction (narrower direction q))

-- ---- one match after another

-- A search that finds nothing for a done query, and else only what lies in the query's span.
abbrev pub LiesIn : Query → Match → Type 0
LiesIn q m = (q.start ≤ m.start) × (m.start ≤ m.end) × (m.end ≤ q.end)

pub record IsOrderly (search : Query → Answer) : Type 0 where
  pub none_when_done : (q : Query) → is_done q ≡ true → search q ≡ Ok None
  pub lies : (q : Query) (m : Match) → search q ≡ Ok (Some m) → LiesIn q m

-- Such is the joined search of any two tables, since what a half search tells lies in the span too.
abbrev pub HalfLiesIn : Type 0
HalfLiesIn = (t : Table) (direction : Direction) (q : Query) (h : HalfMatch)
    → half_search t.machine t.settings direction q ≡ Ok (Some h) → (q.start ≤ h.offset) × (h.offset ≤ q.end)

abbrev pub UnsplitLiesIn : Type 0
UnsplitLiesIn = (t : Table) (direction : Direction) (q : Query) (h : HalfMatch)
    → half_unsplit t direction q ≡ Ok (Some h) → (q.start ≤ h.offset) × (h.offset ≤ q.end)

abbrev pub JoinIsOrderly : Type 0
JoinIsOrderly = (f r : Table) → IsOrderly (join f r)

-- the matches from a query on, where the last one ended at a place
abbrev pub matches_from : (Query → Answer) → Query → Option ℕ → FoundMatches
matches_from search q last_end = iterate_from search (q.end + 2 - q.start) q last_end

-- No bound cuts the matches off: any from the stated one on gives the same,
abbrev pub MatchesUncut : Type 0
MatchesUncut = (search : Query → Answer) (n : ℕ) (q : Query) (last_end : Option ℕ) → IsOrderly search
    → q.end + 2 - q.start ≤ n → iterate_from search n q last_end ≡ matches_from search q last_end

-- and the matches are the next one, and then those from its end on.
abbrev pub MatchesAgain : Type 0
MatchesAgain = (search : Query → Answer) (q : Query) (last_end : Option ℕ) → IsOrderly search
    → matches_from search q last_end
    ≡ and_then (unless_repeat search q last_end (search q))
    (λ found. matches_from search (record q { start = found.end }) (Some found.end))

-- They lie in the span, and each begins at the end of the one before or after it, and ends after it.
abbrev pub MatchesLie : Type 0
MatchesLie = (search : Query → Answer) (q : Query) → IsOrderly search → All (LiesIn q) (iterate search q).matches

abbrev pub MatchesRise : Type 0
MatchesRise = (search : Query → Answer) (q : Query) → IsOrderly search
    → AllPairs (λ x y. (x.end ≤ y.start) × (x.end < y.end)) (iterate search q).matches
