-- Tables of a plan that can be written and read back.
use Rattle.std.proofs.Common.{◌≡◌, List, All, refl, sym, ap, ◌∙◌}
use Rattle.rx_spec.specs.Expressions.{Expression, IsLoopSafe}
use Rattle.rx_plan.specs.Plans.{Plan}
use Rattle.rx_spec.specs.declared.Form.{Form}
use Rattle.rx_dense.specs.Layouts.{Layout}
use Rattle.rx_dense_image.specs.Images as dense
use Rattle.rx_image.specs.Pairs.{AreWhole, HaveSamePatterns, Pair, in_order}
use Rattle.rx_sparse.specs.Layouts.{Stored}
use Rattle.rx_sparse_image.specs.Tested as sparse
use Rattle.rx_wire.specs.declared.order.Order.{Order}
use Rattle.rx_regex.specs.Images.{IsDense, IsSparse}
use Rattle.rx_regex.specs.Pairs.{AreTables}
use Rattle.rx_regex.specs.declared.plan_table.PlanTable.{PlanTable}

-- A table of the plan's form is built of these expressions, and can be written.
pub record IsPlanTable (p : Plan) (wanted : Form) (es : List Expression) (IsBuilt IsWhole : Type 0) : Type 0 where
  pub form : p.form ≡ wanted
  pub safe : All IsLoopSafe es
  pub built : IsBuilt
  pub whole : IsWhole

abbrev pub IsDenseTable : Plan → PlanTable → List Expression → Layout → Type 0
IsDenseTable p which es l = IsPlanTable p Form.Dense es (IsDense p which es l) (dense.IsWhole l)

abbrev pub IsSparseTable : Plan → PlanTable → List Expression → Stored → Type 0
IsSparseTable p which es t = IsPlanTable p Form.Sparse es (IsSparse p which es t) (sparse.IsWhole t.layout)

-- Two tables can be written. The bytes of sparse ones are little endian, as those of an image that is read back.
pub record AreWritable (pair : Pair) : Type 0 where
  pub whole : AreWhole pair
  pub little : in_order Order.Little pair ≡ pair

-- they can be written as one image and read back
pub record AreReadBack (pair : Pair) : Type 0 where
  pub writable : AreWritable pair
  pub patterns : HaveSamePatterns pair

-- ---- two tables of a plan are its pair

pub dense_tables : (p : Plan) (es : List Expression) (f r : Layout) → IsDenseTable p PlanTable.Forward es f
    → IsDenseTable p PlanTable.Reverse es r → AreTables p es (Pair.Dense f r) × AreWritable (Pair.Dense f r)
dense_tables p es f r forward reverse = (
  record {
    form = sym forward.form;
    safe = forward.safe;
    built = record { forward = forward.built; reverse = reverse.built };
  },
  record { whole = (forward.whole, reverse.whole); little = refl },
)

little_again : (p : Plan) (which : PlanTable) (es : List Expression) (t : Stored) → IsSparse p which es t
    → record t { order = Order.Little } ≡ t
little_again p which es t is =
    ap (λ (order : Order). record t { order = order }) (sym (ap (λ (x : Stored). x.order) is.sparse))

pub sparse_tables : (p : Plan) (es : List Expression) (f r : Stored) → IsSparseTable p PlanTable.Forward es f
    → IsSparseTable p PlanTable.Reverse es r → AreTables p es (Pair.Sparse f r) × AreWritable (Pair.Sparse f r)
sparse_tables p es f r forward reverse = (
  record {
    form = sym forward.form;
    safe = forward.safe;
    built = record { forward = forward.built; reverse = reverse.built };
  },
  record {
    whole = (forward.whole, reverse.whole);
    little =
        ap (λ (t : Stored). Pair.Sparse t (record r { order = Order.Little }))
        (little_again p PlanTable.Forward es f forward.built)
        ∙ ap (Pair.Sparse f) (little_again p PlanTable.Reverse es r reverse.built);
  },
)
