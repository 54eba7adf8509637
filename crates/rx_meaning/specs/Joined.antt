-- Joined search: an end found forward, and its start found in reverse.
use Rattle.std.specs.Prelude.{◌≡◌, ◌≢◌, ℕ, ◌≤◌, false, Option, Some, Ok, Err, List, length, slice_get, Contains, All}
use Rattle.rx_spec.specs.Bytes.{AreBytes}
use Rattle.rx_spec.specs.Expressions.{Expression, IsLoopSafe}
use Rattle.rx_spec.specs.Ends.{ends}
use Rattle.rx_spec.specs.Queries.{Query, reading, HalfMatch, MatchError}
use Rattle.rx_spec.specs.Nfas.{is_always_start_anchored}
use Rattle.rx_plan.specs.Plans.{Plan, plan_nfa, plan_build, outcome}
use Rattle.rx_spec.specs.Joining.{Answer, match_at, joined_search}
use Rattle.rx_spec.specs.declared.Direction.{Direction}
use Rattle.rx_meaning.specs.Preference.{build_half_search}

-- the half searches of a plan's two builds, joined
abbrev pub plan_search : Plan → List Expression → Query → Answer
plan_search p es q =
    joined_search (build_half_search (plan_build p Direction.Forward es) Direction.Forward)
    (build_half_search (plan_build p Direction.Reverse es) Direction.Reverse)
    (is_always_start_anchored (plan_nfa p Direction.Forward es)) q

-- Joined, the half searches of a plan's two builds answer what the definitions say: the leftmost match,
-- there the lowest pattern, and its preferred end; or what refuses or ends the forward search.
abbrev pub JoinedSearch : Type 0
JoinedSearch = (p : Plan) (es : List Expression) (q : Query)
    → All IsLoopSafe es → AreBytes q.haystack → q.end ≤ length q.haystack
    → plan_search p es (record q { earliest = false }) ≡ outcome p es q

-- a match of a pattern from one place of a span to another
pub record IsMatch (es : List Expression) (t : ℕ) (q : Query) (pattern start end : ℕ) : Type 0 where
  pub low : q.start ≤ start
  pub order : start ≤ end
  pub high : end ≤ q.end
  pub expression : Expression
  pub numbered : slice_get es pattern ≡ Some expression
  pub matches : Contains (ends (reading Direction.Forward t q.haystack) expression start) end

-- Where the forward search tells an end, be it the first that it meets or the preferred one, the joined
-- search answers a match of that pattern that ends there.
abbrev pub JoinedEnd : Type 0
JoinedEnd = (p : Plan) (es : List Expression) (q : Query) (end : HalfMatch)
    → All IsLoopSafe es → AreBytes q.haystack → q.end ≤ length q.haystack
    → build_half_search (plan_build p Direction.Forward es) Direction.Forward q ≡ Ok (Some end)
    → (start : ℕ) × (plan_search p es q ≡ match_at end.pattern start end.offset)
    × IsMatch es p.line_terminator q end.pattern start end.offset

-- So the two never disagree.
abbrev pub NeverMismatched : Type 0
NeverMismatched = (p : Plan) (es : List Expression) (q : Query) (end : HalfMatch) (start : Option HalfMatch)
    → All IsLoopSafe es → AreBytes q.haystack → q.end ≤ length q.haystack
    → plan_search p es q ≢ Err (MatchError.PairMismatch end start)
