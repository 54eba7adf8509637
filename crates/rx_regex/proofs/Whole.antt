-- Tables of a plan can be written and read again.
use Rattle.rx_spec.proofs.Prelude.{arith, ◌≡◌, ℕ, ◌^◌, ◌<◌, List, [], ◌++◌, length, All, Ok, Result, sym, ap, ◌∙◌}
use Rattle.rx_spec.proofs.Prelude.{subst, append-nil, common_steps, Expression, IsLoopSafe}
use Rattle.rx_plan.specs.Plans.{Plan}
use Rattle.rx_spec.specs.declared.Direction.{Direction}
use Rattle.rx_spec.specs.declared.Form.{Form}
use Rattle.rx_build.specs.Builders.{Both}
use Rattle.rx_build.specs.Settings.{settled}
use Rattle.rx_sparse_build.proofs.BuiltTables.{built_whole}
use Rattle.rx_sparse_build.proofs.BuiltSparseTables as sparse_built
use Rattle.rx_dense.specs.Layouts.{IsShaped, Layout}
use Rattle.rx_dense_image.specs.Images.{IsWhole, reads, text}
use Rattle.rx_dense_image.proofs.WholeAgain.{whole_again}
use Rattle.rx_expr.specs.Compiles.{wanted_nfa}
use Rattle.rx_regex_builder.specs.Pairs.{IsOf, IsSparseOf, in_direction}
use Rattle.rx_sparse.specs.Layouts.{Stored}
use Rattle.rx_sparse_image.specs.Images as sparse
use Rattle.rx_sparse_image.specs.Tested as sparse_tested
use Rattle.rx_sparse_image.proofs.WholeAgain as sparse_again
use Rattle.rx_wire.specs.Kinds.{Kind}
use Rattle.rx_wire.specs.declared.order.Order.{Order}
use Rattle.rx_regex.specs.Images.{IsDense, IsDenseImage, IsImage, IsImageOf, IsSparse, IsSparseImage}
use Rattle.rx_regex.specs.PlanTables.{direction_of}
use Rattle.rx_regex.specs.Settings.{settings_for}
use Rattle.rx_regex.specs.declared.plan_table.PlanTable.{PlanTable}
use Rattle.rx_regex.proofs.Refusals.{in_its_direction}

-- a quit set of bytes, whichever the table
few_quits : (p : Plan) (which : PlanTable) → p.quit < 2 ^ 256
    → (settled (in_direction (direction_of which) (settings_for p which)).dense).quit < 2 ^ 256
few_quits p PlanTable.Forward few = few
few_quits p _ few = few

-- reading of one image gives one table
pub same_read : {X : Type 0} (x y : X) (m n : ℕ) (read : Result (X × ℕ) Kind) → read ≡ Ok (x, m) → read ≡ Ok (y, n)
    → x ≡ y
same_read {X} x y m n read e f = grind (arith, common_steps)

-- ---- dense tables

-- by a builder that has the plan's settings
pub is_dense : (p : Plan) (which : PlanTable) (es : List Expression) {both : Both} {direction : Direction} {l : Layout}
    → both ≡ settings_for p which → direction ≡ direction_of which
    → IsOf (in_direction direction both) es l → IsDense p which es l
is_dense p which es {l = l} settings towards is = grind (arith, common_steps, in_its_direction)

pub dense_whole : (p : Plan) (which : PlanTable) (es : List Expression) (l : Layout) → p.quit < 2 ^ 256
    → IsShaped l → IsDense p which es l → IsWhole l
dense_whole p which es l quit shaped is =
    let both : Both = in_direction (direction_of which) (settings_for p which) in
    built_whole (settled both.dense) (wanted_nfa both.thompson es) l (few_quits p which quit) shaped is

-- what was written is read again
dense_read : (l : Layout) (order : Order) (bytes : List ℕ) → IsWhole l → bytes ≡ text order l → (rest : List ℕ)
    → reads (bytes ++ rest) ≡ Ok (l, length bytes)
dense_read l order bytes whole written rest = grind (arith, common_steps, whole_again)

pub dense_again : (l back : Layout) (size : ℕ) (order : Order) (bytes : List ℕ) → IsWhole l
    → bytes ≡ text order l → reads bytes ≡ Ok (back, size) → back ≡ l
dense_again l back size order bytes whole written read =
    same_read back l size (length bytes) (reads bytes) read
    (ap reads (sym (append-nil bytes)) ∙ dense_read l order bytes whole written [])

dense_image : (p : Plan) (which : PlanTable) (es : List Expression) (l : Layout) (order : Order) (bytes : List ℕ)
    → All IsLoopSafe es → IsDense p which es l → IsWhole l → bytes ≡ text order l
    → IsDenseImage p which es order bytes
dense_image p which es l order bytes safe built whole written = record {
  layout = l;
  safe = safe;
  built = built;
  written = written;
  read = dense_read l order bytes whole written;
}

-- ---- sparse tables

pub is_sparse : (p : Plan) (which : PlanTable) (es : List Expression) {both : Both} {direction : Direction} {t : Stored}
    → both ≡ settings_for p which → direction ≡ direction_of which
    → IsSparseOf (in_direction direction both) es t → IsSparse p which es t
is_sparse p which es {t = t} settings towards is = grind (arith, common_steps, in_its_direction)

pub sparse_whole : (p : Plan) (which : PlanTable) (es : List Expression) (t : Stored) → p.quit < 2 ^ 256
    → IsSparse p which es t → sparse_tested.IsWhole t.layout
sparse_whole p which es t quit is =
    let both : Both = in_direction (direction_of which) (settings_for p which) in
    sparse_built.built_whole (settled both.dense) (wanted_nfa both.thompson es) t (few_quits p which quit) is

-- the bytes of a table that is built are little endian
pub is_little : (p : Plan) (which : PlanTable) (es : List Expression) (t : Stored) → IsSparse p which es t
    → t.order ≡ Order.Little
is_little p which es t is = ap (λ (x : Stored). x.order) is.sparse

sparse_read : (t : Stored) (order : Order) (bytes : List ℕ) → sparse_tested.IsWhole t.layout
    → bytes ≡ sparse.text order t.layout → (rest : List ℕ)
    → sparse.reads (bytes ++ rest) ≡ Ok (record t { order = order }, length bytes)
sparse_read t order bytes whole written rest =
    ap (λ (w : List ℕ). sparse.reads (w ++ rest)) written ∙ sparse_again.whole_again order t.layout whole rest
    ∙ ap (λ (w : List ℕ). Ok (record t { order = order }, length w)) (sym written)

pub sparse_read_again : (t back : Stored) (size : ℕ) (bytes : List ℕ) → sparse_tested.IsWhole t.layout
    → t.order ≡ Order.Little → bytes ≡ sparse.text Order.Little t.layout → sparse.reads bytes ≡ Ok (back, size)
    → back ≡ t
sparse_read_again t back size bytes whole little written read =
    same_read back (record t { order = Order.Little }) size (length bytes) (sparse.reads bytes) read
    (ap sparse.reads (sym (append-nil bytes)) ∙ sparse_read t Order.Little bytes whole written [])
    ∙ ap (λ (order : Order). record t { order = order }) (sym little)

sparse_image : (p : Plan) (which : PlanTable) (es : List Expression) (t : Stored) (order : Order) (bytes : List ℕ)
    → All IsLoopSafe es → IsSparse p which es t → sparse_tested.IsWhole t.layout
    → bytes ≡ sparse.text order t.layout → IsSparseImage p which es order bytes
sparse_image p which es t order bytes safe built whole written = record {
  stored = t;
  safe = safe;
  built = built;
  written = written;
  read = sparse_read t order bytes whole written;
}

-- ---- images of a plan

module _ (p : Plan) (which : PlanTable) (es : List Expression) (order : Order) (bytes : List ℕ) where
  of_form : (form : Form) → p.form ≡ form → IsImageOf form p which es order bytes
      → IsImage p which es order bytes
  of_form form e = subst (λ (f : Form). IsImageOf f p which es order bytes) (sym e)

  pub is_dense_image : (l : Layout) → p.form ≡ Form.Dense → All IsLoopSafe es → IsDense p which es l → IsWhole l
      → bytes ≡ text order l → IsImage p which es order bytes
  is_dense_image l form safe table whole written =
      of_form Form.Dense form (dense_image p which es l order bytes safe table whole written)

  pub is_sparse_image : (t : Stored) → p.form ≡ Form.Sparse → All IsLoopSafe es → IsSparse p which es t
      → sparse_tested.IsWhole t.layout → bytes ≡ sparse.text order t.layout → IsImage p which es order bytes
  is_sparse_image t form safe table whole written =
      of_form Form.Sparse form (sparse_image p which es t order bytes safe table whole written)
