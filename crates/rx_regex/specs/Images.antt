-- One table of a plan and images of it, and images of both.
use Rattle.std.specs.Prelude.{◌≡◌, ℕ, List, length, ◌++◌, Ok, All}
use Rattle.rx_spec.specs.Bytes.{AreBytes}
use Rattle.rx_spec.specs.Expressions.{Expression, IsLoopSafe}
use Rattle.rx_plan.specs.Plans.{Plan, outcome}
use Rattle.rx_spec.specs.Queries.{IsFit, Query}
use Rattle.rx_spec.specs.declared.Form.{Form}
use Rattle.rx_dense.specs.Layouts.{Layout, table_of}
use Rattle.rx_dense_image.specs.Images as dense
use Rattle.rx_image.specs.Pairs.{Pair, in_order, reads, text}
use Rattle.rx_meaning.specs.AllBuilds.{all_build}
use Rattle.rx_meaning.specs.AllMatches.{ServesAll}
use Rattle.rx_regex_builder.specs.Pairs.{IsOf, IsSparseOf, in_direction}
use Rattle.rx_sparse.specs.Layouts.{Stored}
use Rattle.rx_sparse.specs.Layouts as stored
use Rattle.rx_sparse_image.specs.Images as sparse
use Rattle.rx_wire.specs.declared.order.Order.{Order}
use Rattle.rx_regex.specs.Pairs.{AreTables, joined, whole}
use Rattle.rx_regex.specs.PlanTables.{direction_of}
use Rattle.rx_regex.specs.Settings.{settings_for}
use Rattle.rx_regex.specs.declared.plan_table.PlanTable.{PlanTable}

-- ---- one table

-- It is built of these expressions by what the plan asks for of this table: it says of every word what that build says,
-- has as many rows as that asks for, in their order, and is accelerated and marked as asked.
abbrev pub IsDense : Plan → PlanTable → List Expression → Layout → Type 0
IsDense p table es l = IsOf (in_direction (direction_of table) (settings_for p table)) es l

-- it is the sparse table of such a one
abbrev pub IsSparse : Plan → PlanTable → List Expression → Stored → Type 0
IsSparse p table es t = IsSparseOf (in_direction (direction_of table) (settings_for p table)) es t

-- Bytes are an image of such a table: they are its text, and whoever reads them has the table, all of them read and
-- none of what comes behind.
pub record IsDenseImage (p : Plan) (table : PlanTable) (es : List Expression) (order : Order) (bytes : List ℕ)
    : Type 0 where
  pub layout : Layout
  pub safe : All IsLoopSafe es
  pub built : IsDense p table es layout
  pub written : bytes ≡ dense.text order layout
  pub read : (rest : List ℕ) → dense.reads (bytes ++ rest) ≡ Ok (layout, length bytes)

-- A sparse one is read where it lies, with its bytes in the order of the image.
pub record IsSparseImage (p : Plan) (table : PlanTable) (es : List Expression) (order : Order) (bytes : List ℕ)
    : Type 0 where
  pub stored : Stored
  pub safe : All IsLoopSafe es
  pub built : IsSparse p table es stored
  pub written : bytes ≡ sparse.text order stored.layout
  pub read : (rest : List ℕ) → sparse.reads (bytes ++ rest) ≡ Ok (record stored { order = order }, length bytes)

abbrev pub IsImageOf : Form → Plan → PlanTable → List Expression → Order → List ℕ → Type 0
IsImageOf Form.Dense p table es order bytes = IsDenseImage p table es order bytes
IsImageOf Form.Sparse p table es order bytes = IsSparseImage p table es order bytes

-- an image of a table of the plan's form
abbrev pub IsImage : Plan → PlanTable → List Expression → Order → List ℕ → Type 0
IsImage p table es order bytes = IsImageOf p.form p table es order bytes

-- A table for all matches of some expressions tells them (`rx_meaning::all`), whatever its form.
abbrev pub AllTablesServe : Type 0
AllTablesServe = (p : Plan) (es : List Expression)
    → ((l : Layout) → IsDense p PlanTable.All es l → ServesAll (table_of l) (all_build p es))
    × ((t : Stored) → IsSparse p PlanTable.All es t → ServesAll (stored.table_of t.layout) (all_build p es))

-- ---- both tables

-- Bytes are an image of the two tables of a plan: they are their text, and whoever reads them has the tables, sparse
-- ones with their bytes in the order of the image, all bytes read.
pub record IsPairImage (p : Plan) (es : List Expression) (order : Order) (bytes : List ℕ) : Type 0 where
  pub pair : Pair
  pub tables : AreTables p es pair
  pub written : bytes ≡ text order pair
  pub read : reads bytes ≡ Ok (in_order order pair, length bytes)

-- Searches by the tables that are read from such an image answer what the plan and its expressions say.
abbrev pub ImagePairsFind : Type 0
ImagePairsFind = (p : Plan) (es : List Expression) (order : Order) (bytes : List ℕ) → IsPairImage p es order bytes
    → (pair : Pair) (size : ℕ) → reads bytes ≡ Ok (pair, size)
    → (q : Query) → AreBytes q.haystack → IsFit q → joined pair (whole q) ≡ outcome p es q
