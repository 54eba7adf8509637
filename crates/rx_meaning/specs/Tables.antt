-- What a table tells that gives a build: every search of it answers as the build's powerset machine does. And two
-- tables that tell the same of every word answer alike.
use Rattle.std.specs.Prelude.{ℕ, ◌≡◌, ◌≢◌, ◌≤◌, Bool, false, if◌then◌else◌, Option, Some, Ok, Err, List, length, All}
use Rattle.std.specs.Prelude.{Contains}
use Rattle.rx_spec.specs.Bytes.{AreBytes}
use Rattle.rx_spec.specs.Expressions.{Expression, IsLoopSafe}
use Rattle.rx_spec.specs.Queries.{Query, HalfMatch, MatchError}
use Rattle.rx_spec.specs.Nfas.{is_always_start_anchored}
use Rattle.rx_spec.specs.Builds.{Build, power, build_settings}
use Rattle.rx_spec.specs.Tables.{Table, IsTable, SameSettings}
use Rattle.rx_spec.specs.Labels.{SameLabels, Gives, table_modes}
use Rattle.rx_spec.specs.HalfSearches.{HalfAnswer, half_search}
use Rattle.rx_spec.specs.Overlapping.{OverlappingMatches, overlapping}
use Rattle.rx_spec.specs.Splits.{skip_splits, split_limit, skips_splits, half_unsplit, items_unsplit}
use Rattle.rx_spec.specs.Splits.{overlapping_unsplit}
use Rattle.rx_spec.specs.Joining.{Answer, match_at, joined_search, join}
use Rattle.rx_spec.specs.Iterating.{iterate}
use Rattle.rx_plan.specs.Plans.{Plan, plan_nfa, plan_build, outcome}
use Rattle.rx_spec.specs.declared.Direction.{Direction}
use Rattle.rx_meaning.specs.Preference.{build_half_search}
use Rattle.rx_meaning.specs.Joined.{IsMatch}

-- ---- a table and a build

-- a table that gives a build, and whose searches begin as the build's do
pub record Serves (t : Table) (b : Build) : Type 0 where
  pub is_table : IsTable t
  pub gives : Gives t b
  pub settings : SameSettings t.settings (build_settings b)

-- It answers what the build does, in both directions and from each start.
abbrev pub HalfOfTable : Type 0
HalfOfTable = (t : Table) (b : Build) → Serves t b → (direction : Direction) (q : Query) → AreBytes q.haystack
    → half_search t.machine t.settings direction q ≡ build_half_search b direction q

abbrev pub build_overlapping : Build → Direction → Query → OverlappingMatches
build_overlapping b direction q = overlapping (power b) (build_settings b) direction q

abbrev pub OverlappingOfTable : Type 0
OverlappingOfTable = (t : Table) (b : Build) → Serves t b → (direction : Direction) (q : Query) → AreBytes q.haystack
    → overlapping t.machine t.settings direction q ≡ build_overlapping b direction q

-- ---- the same where matches that split a character are passed over

abbrev pub build_half_unsplit : Bool → Build → Direction → Query → HalfAnswer
build_half_unsplit skips b direction q =
    if skips
    then skip_splits (build_half_search b direction) direction (split_limit q) q
    else build_half_search b direction q

abbrev pub build_overlapping_unsplit : Bool → Build → Direction → Query → OverlappingMatches
build_overlapping_unsplit skips b direction q =
    let matches = build_overlapping b direction q in
    if skips then items_unsplit q matches else matches

abbrev pub HalfUnsplitOfTable : Type 0
HalfUnsplitOfTable = (t : Table) (b : Build) → Serves t b → (direction : Direction) (q : Query) → AreBytes q.haystack
    → half_unsplit t direction q ≡ build_half_unsplit (skips_splits t) b direction q

abbrev pub OverlappingUnsplitOfTable : Type 0
OverlappingUnsplitOfTable = (t : Table) (b : Build) → Serves t b
    → (direction : Direction) (q : Query) → AreBytes q.haystack
    → overlapping_unsplit t direction q ≡ build_overlapping_unsplit (skips_splits t) b direction q

-- ---- whole matches, one and all

-- how two tables' searches are joined, by their flags
pub record Flags : Type 0 where
  pub always_anchored : Bool
  pub skips_forward : Bool
  pub skips_reverse : Bool

abbrev pub flags_of : Table → Table → Flags
flags_of f r = record {
  always_anchored = f.is_always_start_anchored;
  skips_forward = skips_splits f;
  skips_reverse = skips_splits r;
}

abbrev pub build_join : Flags → Build → Build → Query → Answer
build_join flags b c q =
    joined_search (build_half_unsplit flags.skips_forward b Direction.Forward)
    (build_half_unsplit flags.skips_reverse c Direction.Reverse) flags.always_anchored q

abbrev pub JoinOfTables : Type 0
JoinOfTables = (f r : Table) (b c : Build) → Serves f b → Serves r c → (q : Query) → AreBytes q.haystack
    → join f r q ≡ build_join (flags_of f r) b c q

abbrev pub IterateOfTables : Type 0
IterateOfTables = (f r : Table) (b c : Build) → Serves f b → Serves r c → (q : Query) → AreBytes q.haystack
    → iterate (join f r) q ≡ iterate (build_join (flags_of f r) b c) q

-- ---- two tables and a plan

-- Two tables give the two builds of a plan, and neither passes over matches inside a character.
pub record ServePlan (p : Plan) (es : List Expression) (f r : Table) : Type 0 where
  pub forward : Serves f (plan_build p Direction.Forward es)
  pub reverse : Serves r (plan_build p Direction.Reverse es)
  pub anchored : f.is_always_start_anchored ≡ is_always_start_anchored (plan_nfa p Direction.Forward es)
  pub whole : skips_splits f ≡ false
  pub whole_reverse : skips_splits r ≡ false

-- They answer what the plan's expressions say: the leftmost match, there the lowest pattern, and its
-- preferred end; or what refuses or ends the forward search.
abbrev pub FoundByTables : Type 0
FoundByTables = (p : Plan) (es : List Expression) (f r : Table) → All IsLoopSafe es → ServePlan p es f r
    → (q : Query) → AreBytes q.haystack → q.end ≤ length q.haystack
    → join f r (record q { earliest = false }) ≡ outcome p es q

-- Where the forward search tells an end, also the first that is met, they answer a match that ends there.
abbrev pub EndByTables : Type 0
EndByTables = (p : Plan) (es : List Expression) (f r : Table) → All IsLoopSafe es → ServePlan p es f r
    → (q : Query) (end : HalfMatch) → AreBytes q.haystack → q.end ≤ length q.haystack
    → half_unsplit f Direction.Forward q ≡ Ok (Some end)
    → (start : ℕ) × (join f r q ≡ match_at end.pattern start end.offset)
    × IsMatch es p.line_terminator q end.pattern start end.offset

-- They never disagree.
abbrev pub TablesAgree : Type 0
TablesAgree = (p : Plan) (es : List Expression) (f r : Table) → All IsLoopSafe es → ServePlan p es f r
    → (q : Query) (end : HalfMatch) (start : Option HalfMatch) → AreBytes q.haystack → q.end ≤ length q.haystack
    → join f r q ≢ Err (MatchError.PairMismatch end start)

-- ---- two tables

-- Two tables whose starts lead by every word to equal labels, whatever they were made of: one laid out
-- otherwise, read back from an image, or of fewer rows.
pub record Copies (t u : Table) : Type 0 where
  pub is_table : IsTable t
  pub other_is_table : IsTable u
  pub settings : SameSettings t.settings u.settings
  pub labels : SameLabels (Contains (table_modes u.settings)) t.machine u.machine

abbrev pub HalfOfCopy : Type 0
HalfOfCopy = (t u : Table) → Copies t u → (direction : Direction) (q : Query) → AreBytes q.haystack
    → half_search t.machine t.settings direction q ≡ half_search u.machine u.settings direction q

abbrev pub OverlappingOfCopy : Type 0
OverlappingOfCopy = (t u : Table) → Copies t u → (direction : Direction) (q : Query) → AreBytes q.haystack
    → overlapping t.machine t.settings direction q ≡ overlapping u.machine u.settings direction q

abbrev pub HalfUnsplitOfCopy : Type 0
HalfUnsplitOfCopy = (t u : Table) → Copies t u → skips_splits t ≡ skips_splits u
    → (direction : Direction) (q : Query) → AreBytes q.haystack
    → half_unsplit t direction q ≡ half_unsplit u direction q

abbrev pub OverlappingUnsplitOfCopy : Type 0
OverlappingUnsplitOfCopy = (t u : Table) → Copies t u → skips_splits t ≡ skips_splits u
    → (direction : Direction) (q : Query) → AreBytes q.haystack
    → overlapping_unsplit t direction q ≡ overlapping_unsplit u direction q

abbrev pub JoinOfCopies : Type 0
JoinOfCopies = (f g r s : Table) → Copies f g → Copies r s → flags_of f r ≡ flags_of g s
    → (q : Query) → AreBytes q.haystack → join f r q ≡ join g s q

abbrev pub IterateOfCopies : Type 0
IterateOfCopies = (f g r s : Table) → Copies f g → Copies r s → flags_of f r ≡ flags_of g s
    → (q : Query) → AreBytes q.haystack → iterate (join f r) q ≡ iterate (join g s) q
