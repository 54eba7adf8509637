-- When a table has as few rows as can be: every row is reached, and any two are told apart. This is the theorem of
-- Myhill and Nerode, with two rows that each table has, dead and quit.
use Rattle.std.specs.Prelude.{ℕ, ◌≡◌, ◌<◌, ◌≤◌, List, Contains}
use Rattle.rx_spec.specs.Queries.{Anchored}
use Rattle.rx_spec.specs.Builds.{Build, built_modes}
use Rattle.rx_spec.specs.Tables.{Table, IsTable}
use Rattle.rx_spec.specs.Labels.{SameLabels, Gives, IsReachedRow, IsReduced, IsLeastFor}
use Rattle.rx_spec.specs.Power.{IsPower}

-- No table with the labels of a reduced one has fewer rows, from the starts of whichever modes.
abbrev pub Leastness : Type 0
Leastness = (modes : List Anchored) (t u : Table) → IsTable t → IsReduced (Contains modes) t → IsTable u
    → SameLabels (Contains modes) t.machine u.machine → t.size ≤ u.size

-- A reduced table that gives a build has the build's least number of rows.
abbrev pub ReducedIsLeast : Type 0
ReducedIsLeast = (b : Build) (t : Table) → IsTable t → IsReduced (Contains (built_modes b)) t → Gives t b
    → IsLeastFor b t.size

-- There is one least number.
abbrev pub LeastIsOne : Type 0
LeastIsOne = (b : Build) (j k : ℕ) → IsLeastFor b j → IsLeastFor b k → j ≡ k

-- A table that is a build's powerset machine gives the build, and each of its rows but dead and quit is reached.
abbrev pub PowerGives : Type 0
PowerGives = (t : Table) (b : Build) → IsTable t → IsPower t b → Gives t b

abbrev pub PowerIsReached : Type 0
PowerIsReached = (t : Table) (b : Build) → IsTable t → IsPower t b → (row : ℕ) → 1 < row → row < t.size
    → IsReachedRow (Contains (built_modes b)) t row
