-- The tables of a plan: two that are searched together, and one that reports all matches.
use Rattle.std.specs.Prelude.{List}
use Rattle.rx_spec.specs.Builds.{Build}
use Rattle.rx_spec.specs.Expressions.{Expression}
use Rattle.rx_plan.specs.Plans.{DirectionFits, DirectionRefused, Plan, plan_build}
use Rattle.rx_spec.specs.Causes.{Cause}
use Rattle.rx_spec.specs.declared.Direction.{Direction}
use Rattle.rx_spec.specs.declared.MatchKind.{MatchKind}
use Rattle.rx_meaning.specs.AllBuilds.{AllFits, AllRefused, all_build}
use Rattle.rx_regex.specs.declared.plan_table.PlanTable.{PlanTable}

-- the direction in which a table is searched
abbrev pub direction_of : PlanTable → Direction
direction_of PlanTable.Forward = Direction.Forward
direction_of PlanTable.Reverse = Direction.Reverse
direction_of PlanTable.All = Direction.Forward

-- the kind that a builder is asked for, which in reverse builds for all matches whatever it is asked
abbrev pub match_kind_of : PlanTable → MatchKind
match_kind_of PlanTable.Forward = MatchKind.LeftmostFirst
match_kind_of PlanTable.Reverse = MatchKind.LeftmostFirst
match_kind_of PlanTable.All = MatchKind.All

-- one of the two that are searched together
abbrev pub IsOfPair : PlanTable → Type 0
IsOfPair PlanTable.Forward = Unit {0}
IsOfPair PlanTable.Reverse = Unit {0}
IsOfPair PlanTable.All = ⊥

-- what the table says of every word
abbrev pub table_build : Plan → PlanTable → List Expression → Build
table_build p PlanTable.Forward es = plan_build p Direction.Forward es
table_build p PlanTable.Reverse es = plan_build p Direction.Reverse es
table_build p PlanTable.All es = all_build p es

-- a cause refuses it
abbrev pub TableRefused : Plan → PlanTable → List Expression → Cause → Type 0
TableRefused p PlanTable.Forward es = DirectionRefused p Direction.Forward es
TableRefused p PlanTable.Reverse es = DirectionRefused p Direction.Reverse es
TableRefused p PlanTable.All es = AllRefused p es

-- nothing refuses it
abbrev pub TableFits : Plan → PlanTable → List Expression → Type 0
TableFits p PlanTable.Forward es = DirectionFits p Direction.Forward es
TableFits p PlanTable.Reverse es = DirectionFits p Direction.Reverse es
TableFits p PlanTable.All es = AllFits p es
