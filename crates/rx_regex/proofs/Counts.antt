-- How many rows the tables of a plan have.
use Rattle.rx_spec.proofs.Prelude.{arith, ◌≡◌, Bool, true, false, refl, List, common_steps, Build, Expression}
use Rattle.rx_plan.specs.Plans.{Plan}
use Rattle.rx_spec.proofs.Prelude.{IsPower, Table}
use Rattle.rx_spec.specs.Labels.{IsLeastFor}
use Rattle.rx_dense.specs.Layouts.{Layout, table_of}
use Rattle.rx_sparse.specs.Layouts as sparse
use Rattle.rx_sparse_build.proofs.Served.{sparse_least, sparse_power}
use Rattle.rx_regex.specs.Images.{IsDense, IsSparse}
use Rattle.rx_image.specs.Pairs.{Pair}
use Rattle.rx_regex.specs.Pairs.{AreBuilt, AreTables, forward_table, reverse_table}
use Rattle.rx_regex.specs.PlanTables.{table_build}
use Rattle.rx_regex.specs.Rows.{CountsRows, HasRows, HaveRows}
use Rattle.rx_regex.specs.Settings.{settings_of}
use Rattle.rx_regex.specs.declared.plan_table.PlanTable.{PlanTable}

counts : (minimize : Bool) (b : Build) (t : Table) → (minimize ≡ false → IsPower t b)
    → (minimize ≡ true → IsLeastFor b t.size) → CountsRows minimize b t.size
counts false b t power least = grind (arith, common_steps)
counts true b t power least = least refl

module _ (p : Plan) (es : List Expression) where
  dense_rows : (table : PlanTable) (l : Layout) → IsDense p table es l → HasRows p table es (table_of l).size
  dense_rows PlanTable.Forward l is =
      counts p.minimize (table_build p PlanTable.Forward es) (table_of l) is.power is.least
  dense_rows PlanTable.Reverse l is =
      counts p.minimize (table_build p PlanTable.Reverse es) (table_of l) is.power is.least
  dense_rows PlanTable.All l is = counts p.minimize (table_build p PlanTable.All es) (table_of l) is.power is.least

  sparse_rows : (table : PlanTable) (t : sparse.Stored) → IsSparse p table es t
      → HasRows p table es (sparse.table_of t.layout).size
  sparse_rows PlanTable.Forward t is =
      counts p.minimize (table_build p PlanTable.Forward es) (sparse.table_of t.layout) (sparse_power _ _ t is)
      (sparse_least _ _ t is)
  sparse_rows PlanTable.Reverse t is =
      counts p.minimize (table_build p PlanTable.Reverse es) (sparse.table_of t.layout) (sparse_power _ _ t is)
      (sparse_least _ _ t is)
  sparse_rows PlanTable.All t is =
      counts p.minimize (table_build p PlanTable.All es) (sparse.table_of t.layout) (sparse_power _ _ t is)
      (sparse_least _ _ t is)

  both_rows : (pair : Pair) → AreBuilt (settings_of p) es pair
      → HaveRows p es (forward_table pair).size (reverse_table pair).size
  both_rows (Pair.Dense f r) built = record {
    forward = dense_rows PlanTable.Forward f built.forward;
    reverse = dense_rows PlanTable.Reverse r built.reverse;
  }
  both_rows (Pair.Sparse f r) built = record {
    forward = sparse_rows PlanTable.Forward f built.forward;
    reverse = sparse_rows PlanTable.Reverse r built.reverse;
  }

pub have_rows : {p : Plan} {es : List Expression} {pair : Pair} → AreTables p es pair
    → HaveRows p es (forward_table pair).size (reverse_table pair).size
have_rows {p} {es} {pair} t = both_rows p es pair t.built
