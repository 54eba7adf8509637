-- What a search for a match returns, and the causes of its errors.
use Rattle.std.specs.Prelude.{◌≡◌, ◌≢◌, ◌⊎◌, Result, Ok, Err, List}
use Rattle.rx_spec.specs.Expressions.{Expression}
use Rattle.rx_spec.specs.Queries.{Query, MatchError}
use Rattle.rx_plan.specs.Plans.{Plan, DirectionFits, DirectionRefused, outcome}
use Rattle.rx_spec.specs.Causes.{Cause}
use Rattle.rx_spec.specs.declared.Direction.{Direction}
use Rattle.rx_base.specs.Search.{mode_of}
use Rattle.rx_expr.specs.Refusals.{IsRefused}
use Rattle.rx_expr.specs.declared.build_error.BuildErrorKind.{BuildErrorKind}
use Rattle.rx_regex.specs.Rows.{HaveRows}
use Rattle.rx_regex.specs.declared.error.FindFault.{FindFault}
use Rattle.rx_regex.specs.declared.find.Answer.{Answer}

-- ---- builds

-- nothing refuses a plan's builds
pub record PlanFits (p : Plan) (es : List Expression) : Type 0 where
  pub forward : DirectionFits p Direction.Forward es
  pub reverse : DirectionFits p Direction.Reverse es

-- the forward one is refused, or else the reverse one
abbrev pub PlanRefused : Plan → List Expression → Cause → Type 0
PlanRefused p es cause =
    DirectionRefused p Direction.Forward es cause
    ⊎ (DirectionFits p Direction.Forward es × DirectionRefused p Direction.Reverse es cause)

-- a refusal as a fault of the search
abbrev pub IsFault : BuildErrorKind → FindFault → Type 0
IsFault kind (FindFault.Build error) = (error.kind ≡ kind) × (kind ≢ BuildErrorKind.Memory)
IsFault kind (FindFault.Quit byte offset) = ⊥
IsFault kind (FindFault.Unsupported mode) = ⊥
IsFault kind FindFault.Memory = kind ≡ BuildErrorKind.Memory

-- ---- the search

-- an error of a plan's search, which never has halves that disagree
abbrev pub IsPaired : MatchError → Type 0
IsPaired (MatchError.Quit byte offset) = Unit {0}
IsPaired (MatchError.UnsupportedAnchored mode) = Unit {0}
IsPaired (MatchError.PairMismatch forward reverse) = ⊥

-- a fault tells a search's error
abbrev pub Tells : FindFault → MatchError → Type 0
Tells (FindFault.Build refused) error = ⊥
Tells (FindFault.Quit byte offset) error = error ≡ MatchError.Quit byte offset
Tells (FindFault.Unsupported mode) error = error ≡ MatchError.UnsupportedAnchored (mode_of mode)
Tells FindFault.Memory error = ⊥

-- ---- the answer

-- What is found, and how many rows the two tables have. Nothing refuses their builds.
pub record IsFound (p : Plan) (es : List Expression) (q : Query) (answer : Answer) : Type 0 where
  pub fits : PlanFits p es
  pub found : outcome p es q ≡ Ok answer.found
  pub rows : HaveRows p es answer.forward_rows answer.reverse_rows

-- Nothing refuses the builds, and the search ends by an error.
pub record EndsBy (p : Plan) (es : List Expression) (q : Query) (error : MatchError) : Type 0 where
  pub fits : PlanFits p es
  pub ends : outcome p es q ≡ Err error

-- What is found, or an error with its cause. A refused build is never told where memory ran out.
abbrev pub Answers : Plan → List Expression → Query → Result Answer FindFault → Type 0
Answers p es q (Ok answer) = IsFound p es q answer
Answers p es q (Err (FindFault.Build error)) =
    IsRefused (PlanRefused p es) error.kind × (error.kind ≢ BuildErrorKind.Memory)
Answers p es q (Err (FindFault.Quit byte offset)) = EndsBy p es q (MatchError.Quit byte offset)
Answers p es q (Err (FindFault.Unsupported mode)) = EndsBy p es q (MatchError.UnsupportedAnchored (mode_of mode))
Answers p es q (Err FindFault.Memory) = Unit {0}

-- Two plans of one line terminator find the same: no other setting changes what is found.
abbrev pub PlansFindTheSame : Type 0
PlansFindTheSame = (p other : Plan) (es : List Expression) (q : Query) (answer other_answer : Answer)
    → p.line_terminator ≡ other.line_terminator → Answers p es q (Ok answer) → Answers other es q (Ok other_answer)
    → answer.found ≡ other_answer.found
