-- The two tables of a plan, dense or sparse.
use Rattle.std.specs.Prelude.{◌≡◌, false, List, All}
use Rattle.rx_spec.specs.Expressions.{Expression, IsLoopSafe}
use Rattle.rx_spec.specs.Joining.{Answer, join}
use Rattle.rx_plan.specs.Plans.{Plan}
use Rattle.rx_spec.specs.Queries.{Query}
use Rattle.rx_spec.specs.Tables.{Table}
use Rattle.rx_spec.specs.declared.Form.{Form}
use Rattle.rx_build.specs.Builders.{Both}
use Rattle.rx_dense.specs.Layouts as dense
use Rattle.rx_image.specs.Pairs.{Pair}
use Rattle.rx_regex_builder.specs.Pairs as pairs
use Rattle.rx_regex_builder.specs.Pairs.{IsOf, IsSparseOf}
use Rattle.rx_sparse.specs.Layouts as sparse
use Rattle.rx_regex.specs.Settings.{settings_of}

abbrev pub form_of : Pair → Form
form_of (Pair.Dense f r) = Form.Dense
form_of (Pair.Sparse f r) = Form.Sparse

-- the definitions' tables that they are
abbrev pub forward_table : Pair → Table
forward_table (Pair.Dense f r) = dense.table_of f
forward_table (Pair.Sparse f r) = sparse.table_of f.layout

abbrev pub reverse_table : Pair → Table
reverse_table (Pair.Dense f r) = dense.table_of r
reverse_table (Pair.Sparse f r) = sparse.table_of r.layout

-- what a search by both answers
abbrev pub joined : Pair → Query → Answer
joined pair = join (forward_table pair) (reverse_table pair)

-- they are built of these expressions by these settings
abbrev pub AreBuilt : Both → List Expression → Pair → Type 0
AreBuilt both es (Pair.Dense f r) = pairs.AreBuilt IsOf both es f r
AreBuilt both es (Pair.Sparse f r) = pairs.AreBuilt IsSparseOf both es f r

-- They have the form that a plan asks for, and are built of these expressions by what it asks for.
pub record AreTables (p : Plan) (es : List Expression) (pair : Pair) : Type 0 where
  pub form : form_of pair ≡ p.form
  pub safe : All IsLoopSafe es
  pub built : AreBuilt (settings_of p) es pair

-- they are those of some plan and some expressions
pub record IsPair (pair : Pair) : Type 0 where
  pub plan : Plan
  pub exprs : List Expression
  pub tables : AreTables plan exprs pair

-- what is searched: a plan's search is never for the first match that is met
abbrev pub whole : Query → Query
whole q = record q { earliest = false }
