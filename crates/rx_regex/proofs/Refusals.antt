-- What refuses a table by a plan's settings refuses the plan.
use Rattle.rx_spec.proofs.Prelude.{arith, ◌≡◌, sym, ap, subst, List, common_steps, BuildCause, BuildFits, Expression}
use Rattle.rx_spec.proofs.Prelude.{Build, Cause}
use Rattle.rx_plan.specs.Plans.{Plan}
use Rattle.rx_spec.specs.Causes.{BuildRefused, Limits}
use Rattle.rx_plan.specs.Plans.{DirectionFits, DirectionRefused, plan_limits}
use Rattle.rx_spec.specs.declared.Direction.{Direction}
use Rattle.rx_spec.specs.declared.Form.{Form}
use Rattle.rx_build.specs.Builders.{Both}
use Rattle.rx_build.specs.Built.{limits_of}
use Rattle.rx_build.specs.Settings.{settled}
use Rattle.rx_build.proofs.Beginnings.{refused_as}
use Rattle.rx_expr.specs.Refusals.{IsRefused}
use Rattle.rx_expr.specs.declared.build_error.BuildErrorKind.{BuildErrorKind}
use Rattle.rx_regex_builder.specs.Pairs.{IsFitBy, IsRefusedBy, IsSparseFitBy, IsSparseRefusedBy, in_direction}
use Rattle.rx_sparse_build.specs.Built.{sparse_limits}
use Rattle.rx_regex.specs.Find.{PlanRefused}
use Rattle.rx_regex.specs.PlanTables.{TableFits, TableRefused, direction_of}
use Rattle.rx_regex.specs.Settings.{settings_for, table_settings}
use Rattle.rx_regex.specs.declared.plan_table.PlanTable.{PlanTable}

-- ---- settings that are the plan's

pub in_its_direction : (p : Plan) (table : PlanTable) {both : Both} {direction : Direction}
    → both ≡ settings_for p table → direction ≡ direction_of table
    → in_direction direction both ≡ in_direction (direction_of table) (settings_for p table)
in_its_direction p table {both} {direction} settings towards = grind (arith, common_steps)

-- ---- one table, by limits that are the plan's

module _ (p : Plan) {l : Limits} (limits_are : l ≡ plan_limits p) (b : Build) where
  build_fits : BuildFits l b → BuildFits (plan_limits p) b
  build_fits fits = subst (λ (m : Limits). BuildFits m b) limits_are fits

  build_refused : (cause : BuildCause) → BuildRefused l b cause → BuildRefused (plan_limits p) b cause
  build_refused cause refused = subst (λ (m : Limits). BuildRefused m b cause) limits_are refused

-- ---- dense

module _ (p : Plan) (es : List Expression) (dense : p.form ≡ Form.Dense) where
  limits : (table : PlanTable) → limits_of (settled (table_settings p table)) ≡ plan_limits p
  limits table = ap (λ (form : Form). record (plan_limits p) { form = form }) (sym dense)

  settings_fit : (table : PlanTable) → IsFitBy (in_direction (direction_of table) (settings_for p table)) es
      → TableFits p table es
  settings_fit PlanTable.Forward fits = grind (arith, common_steps, build_fits, limits)
  settings_fit _ fits = grind (arith, common_steps, build_fits, limits)

  refused : (table : PlanTable) (cause : Cause)
      → IsRefusedBy (in_direction (direction_of table) (settings_for p table)) es cause → TableRefused p table es cause
  refused PlanTable.Forward (Cause.NFA cause) r = r
  refused PlanTable.Forward (Cause.DFA cause) r = grind (arith, common_steps, build_refused, limits)
  refused PlanTable.Reverse (Cause.NFA cause) r = r
  refused PlanTable.Reverse (Cause.DFA cause) r = grind (arith, common_steps, build_refused, limits)
  refused PlanTable.All (Cause.NFA cause) r = r
  refused PlanTable.All (Cause.DFA cause) r = grind (arith, common_steps, build_refused, limits)

  -- by a builder that has the plan's settings
  pub table_fits : (table : PlanTable) {both : Both} {direction : Direction} → both ≡ settings_for p table
      → direction ≡ direction_of table → IsFitBy (in_direction direction both) es → TableFits p table es
  table_fits table settings towards fits = grind (arith, common_steps, settings_fit, in_its_direction)

  pub table_refused : (table : PlanTable) {both : Both} {direction : Direction} → both ≡ settings_for p table
      → direction ≡ direction_of table → (kind : BuildErrorKind)
      → IsRefused (IsRefusedBy (in_direction direction both) es) kind → IsRefused (TableRefused p table es) kind
  table_refused table settings towards kind is = grind (arith, common_steps, refused_as, refused, in_its_direction)

-- ---- sparse

module _ (p : Plan) (es : List Expression) (sparse : p.form ≡ Form.Sparse) where
  limits_are : (table : PlanTable) → sparse_limits (settled (table_settings p table)) ≡ plan_limits p
  limits_are table = ap (λ (form : Form). record (plan_limits p) { form = form }) (sym sparse)

  sparse_settings_fit : (table : PlanTable)
      → IsSparseFitBy (in_direction (direction_of table) (settings_for p table)) es → TableFits p table es
  sparse_settings_fit PlanTable.Forward fits = grind (arith, common_steps, build_fits, limits_are)
  sparse_settings_fit _ fits = grind (arith, common_steps, build_fits, limits_are)

  sparse_refused : (table : PlanTable) (cause : Cause)
      → IsSparseRefusedBy (in_direction (direction_of table) (settings_for p table)) es cause
      → TableRefused p table es cause
  sparse_refused PlanTable.Forward (Cause.NFA cause) r = r
  sparse_refused PlanTable.Forward (Cause.DFA cause) r = grind (arith, common_steps, build_refused, limits_are)
  sparse_refused PlanTable.Reverse (Cause.NFA cause) r = r
  sparse_refused PlanTable.Reverse (Cause.DFA cause) r = grind (arith, common_steps, build_refused, limits_are)
  sparse_refused PlanTable.All (Cause.NFA cause) r = r
  sparse_refused PlanTable.All (Cause.DFA cause) r = grind (arith, common_steps, build_refused, limits_are)

  pub sparse_table_fits : (table : PlanTable) {both : Both} {direction : Direction} → both ≡ settings_for p table
      → direction ≡ direction_of table → IsSparseFitBy (in_direction direction both) es
      → TableFits p table es
  sparse_table_fits table settings towards fits = grind (arith, common_steps, sparse_settings_fit, in_its_direction)

  pub sparse_table_refused : (table : PlanTable) {both : Both} {direction : Direction} → both ≡ settings_for p table
      → direction ≡ direction_of table → (kind : BuildErrorKind)
      → IsRefused (IsSparseRefusedBy (in_direction direction both) es) kind
      → IsRefused (TableRefused p table es) kind
  sparse_table_refused table settings towards kind is =
      grind (arith, common_steps, refused_as, sparse_refused, in_its_direction)

-- ---- both tables

pub forward_refused : (p : Plan) (es : List Expression) (kind : BuildErrorKind)
    → IsRefused (DirectionRefused p Direction.Forward es) kind → IsRefused (PlanRefused p es) kind
forward_refused p es kind = grind (arith, common_steps, refused_as)

pub reverse_refused : (p : Plan) (es : List Expression) → DirectionFits p Direction.Forward es
    → (kind : BuildErrorKind) → IsRefused (DirectionRefused p Direction.Reverse es) kind
    → IsRefused (PlanRefused p es) kind
reverse_refused p es fits kind = grind (arith, common_steps, refused_as)
