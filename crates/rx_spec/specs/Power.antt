-- A table that is a build's powerset machine, its states in an order of the table's own.
use Rattle.std.specs.Prelude.{ℕ, zero, suc, ◌≡◌, ◌<◌, ◌+◌, List, length, map, slice_index_or}
use Rattle.rx_spec.specs.Queries.{Anchored}
use Rattle.rx_spec.specs.Builds as builds
use Rattle.rx_spec.specs.Builds.{Build, Node, dead, built_entry, next_node, node_label, AreReached}
use Rattle.rx_spec.specs.States.{State}
use Rattle.rx_spec.specs.Tables.{Table}
use Rattle.rx_spec.specs.declared.Start.{Start}

-- the nodes by row: dead, quit, and then the states
abbrev pub node_at : List State → ℕ → Node
node_at states zero = dead
node_at states (suc zero) = builds.Quit
node_at states (suc (suc i)) = slice_index_or (map (λ s. builds.Running s) states) i dead

-- each state that is reached has one row, and the rows lead and tell as the nodes do
pub record IsPower (t : Table) (b : Build) : Type 0 where
  pub states : List State
  pub reached : AreReached b states
  pub size : t.size ≡ length states + 2
  pub entries : (mode : Anchored) (start : Start)
      → node_at states (t.machine.entry mode start) ≡ built_entry b mode start
  pub nexts : (row unit : ℕ) → row < t.size → unit < 257
      → node_at states (t.machine.next row unit) ≡ next_node b (node_at states row) unit
  pub labels : (row : ℕ) → row < t.size → t.machine.label row ≡ node_label (node_at states row)
