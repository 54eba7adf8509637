-- How many rows the tables of a plan have.
use Rattle.std.specs.Prelude.{ℕ, ◌≡◌, ◌+◌, Bool, true, false, List, length}
use Rattle.rx_spec.specs.Expressions.{Expression}
use Rattle.rx_spec.specs.Builds.{Build, AreReached}
use Rattle.rx_spec.specs.Labels.{IsLeastFor}
use Rattle.rx_plan.specs.Plans.{Plan}
use Rattle.rx_spec.specs.States.{State}
use Rattle.rx_regex.specs.PlanTables.{table_build}
use Rattle.rx_regex.specs.declared.plan_table.PlanTable.{PlanTable}

-- dead, quit, and one for each state that is reached
pub record CountsReached (b : Build) (rows : ℕ) : Type 0 where
  pub states : List State
  pub reached : AreReached b states
  pub count : rows ≡ length states + 2

-- With minimizing there are as few as can be.
abbrev pub CountsRows : Bool → Build → ℕ → Type 0
CountsRows false b rows = CountsReached b rows
CountsRows true b rows = IsLeastFor b rows

-- the rows of a table of a plan
abbrev pub HasRows : Plan → PlanTable → List Expression → ℕ → Type 0
HasRows p table es rows = CountsRows p.minimize (table_build p table es) rows

-- of the two that are searched together
pub record HaveRows (p : Plan) (es : List Expression) (forward_rows reverse_rows : ℕ) : Type 0 where
  pub forward : HasRows p PlanTable.Forward es forward_rows
  pub reverse : HasRows p PlanTable.Reverse es reverse_rows
