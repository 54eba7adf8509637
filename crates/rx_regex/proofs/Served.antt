-- A pair of tables that is built as a plan's is serves the plan: the tables give its builds, and pass over no match
-- that splits a character.
use Rattle.rx_spec.proofs.Prelude.{arith, ◌≡◌, ◌&&◌, ℕ, Bool, false, refl, ap, ◌∙◌, List, All, common_steps, Build}
use Rattle.rx_spec.proofs.Prelude.{Expression, Nfa, nfa_of, is_always_start_anchored}
use Rattle.rx_plan.specs.Plans.{Plan, plan_build, plan_nfa}
use Rattle.rx_spec.proofs.Prelude.{skips_splits, Table, and-false}
use Rattle.rx_spec.specs.declared.Direction.{Direction}
use Rattle.rx_dense.specs.Layouts.{Layout, table_of}
use Rattle.rx_dense.specs.declared.flags.Flags.{Flags}
use Rattle.rx_expr.specs.Compiles.{wanted_nfa}
use Rattle.rx_meaning.specs.AllMatches.{ServesAll}
use Rattle.rx_meaning.specs.Tables.{Serves, ServePlan}
use Rattle.rx_build.specs.Builders.{Both}
use Rattle.rx_build.specs.Built.{IsBuilt, build_of}
use Rattle.rx_build.specs.Settings.{Settled, settled}
use Rattle.rx_build.proofs.Served.{built_serves}
use Rattle.rx_regex_builder.specs.Pairs.{in_reverse}
use Rattle.rx_sparse.specs.Layouts as sparse
use Rattle.rx_sparse_build.specs.Built.{IsSparse}
use Rattle.rx_sparse_build.proofs.Served.{sparse_serves}
use Rattle.rx_regex.specs.Planned.{IsPlanned, planned}
use Rattle.rx_regex.specs.Images as images
use Rattle.rx_regex.specs.Settings.{settings_for}
use Rattle.rx_image.specs.Pairs.{Pair}
use Rattle.rx_regex.specs.Pairs.{AreBuilt, AreTables, forward_table, reverse_table}
use Rattle.rx_regex.specs.declared.plan_table.PlanTable.{PlanTable}

utf8_of : (direction : Direction) (terminator : ℕ) (utf8 : Bool) (es : List Expression)
    → (nfa_of direction terminator utf8 es).is_utf8 ≡ utf8
unfolding nfa_of
utf8_of direction terminator utf8 es = refl

-- ---- one table of an NFA

-- it gives a build, begins where the NFA says, and without UTF-8 mode passes over no match
record ServesNfa (t : Table) (s : Settled) (nfa : Nfa) : Type 0 where
  serves : Serves t (build_of s nfa)
  anchored : t.is_always_start_anchored ≡ is_always_start_anchored nfa
  whole : nfa.is_utf8 ≡ false → skips_splits t ≡ false

dense_serves : (s : Settled) (nfa : Nfa) (l : Layout) → IsBuilt s nfa l → ServesNfa (table_of l) s nfa
dense_serves s nfa l is = record {
  serves = built_serves s nfa l is;
  anchored = ap (λ (m : Layout). m.flags.is_always_start_anchored) is.rest;
  whole = λ e.
      ap (λ (m : Layout). m.flags.has_empty && m.flags.is_utf8) is.rest
      ∙ (ap (λ (utf8 : Bool). nfa.has_empty && utf8) e ∙ and-false nfa.has_empty);
}

-- its flags are those of the dense table
sparse_serves_nfa : (s : Settled) (nfa : Nfa) (t : sparse.Stored) → IsSparse s nfa t
    → ServesNfa (sparse.table_of t.layout) s nfa
sparse_serves_nfa s nfa t is =
    let dense = dense_serves s nfa is.dense is.built in
    let flags : t.layout.flags ≡ is.dense.flags = ap (λ (x : sparse.Stored). x.layout.flags) is.sparse in
    record {
      serves = sparse_serves s nfa t is;
      anchored = ap (λ (f : Flags). f.is_always_start_anchored) flags ∙ dense.anchored;
      whole = λ e. ap (λ (f : Flags). f.has_empty && f.is_utf8) flags ∙ dense.whole e;
    }

-- ---- both tables by settings

module _ (both : Both) (es : List Expression) (is : IsPlanned both) where
  abbrev back : Both
  back = in_reverse both

  -- the NFAs and builds are the plan's
  forward_nfa : wanted_nfa both.thompson es ≡ plan_nfa (planned both) Direction.Forward es
  forward_nfa = rw (is.forward, is.anywhere) refl

  reverse_nfa : wanted_nfa back.thompson es ≡ plan_nfa (planned both) Direction.Reverse es
  reverse_nfa = rw is.anywhere refl

  forward_build : build_of (settled both.dense) (wanted_nfa both.thompson es)
      ≡ plan_build (planned both) Direction.Forward es
  forward_build = rw (is.kind, is.forward, is.anywhere) refl

  reverse_build : build_of (settled back.dense) (wanted_nfa back.thompson es)
      ≡ plan_build (planned both) Direction.Reverse es
  reverse_build = rw is.anywhere refl

  -- matches may split characters
  forward_anywhere : (wanted_nfa both.thompson es).is_utf8 ≡ false
  forward_anywhere = grind (arith, common_steps, forward_nfa, utf8_of)

  reverse_anywhere : (wanted_nfa back.thompson es).is_utf8 ≡ false
  reverse_anywhere = grind (arith, common_steps, reverse_nfa, utf8_of)

  serve_both : (f r : Table) → ServesNfa f (settled both.dense) (wanted_nfa both.thompson es)
      → ServesNfa r (settled back.dense) (wanted_nfa back.thompson es) → ServePlan (planned both) es f r
  serve_both f r forward reverse =
      grind (arith, common_steps, forward_build, reverse_build, forward_nfa, forward_anywhere, reverse_anywhere)

  pub serve_planned : (pair : Pair) → AreBuilt both es pair
      → ServePlan (planned both) es (forward_table pair) (reverse_table pair)
  serve_planned (Pair.Dense f r) built =
      serve_both (table_of f) (table_of r)
      (dense_serves (settled both.dense) (wanted_nfa both.thompson es) f built.forward)
      (dense_serves (settled back.dense) (wanted_nfa back.thompson es) r built.reverse)
  serve_planned (Pair.Sparse f r) built =
      serve_both (sparse.table_of f.layout) (sparse.table_of r.layout)
      (sparse_serves_nfa (settled both.dense) (wanted_nfa both.thompson es) f built.forward)
      (sparse_serves_nfa (settled back.dense) (wanted_nfa back.thompson es) r built.reverse)

pub serve_plan : {p : Plan} {es : List Expression} {pair : Pair} → AreTables p es pair
    → ServePlan p es (forward_table pair) (reverse_table pair)
serve_plan {p} {es} {pair} t = grind (arith, common_steps, serve_planned)

-- ---- the table of a plan for all matches tells them

serves_all : {t : Table} {b : Build} → Serves t b → ServesAll t b
serves_all s = grind (arith, common_steps)

pub all_tables_serve : images.AllTablesServe
all_tables_serve p es =
    let both : Both = settings_for p PlanTable.All in (
      λ l is. serves_all (built_serves (settled both.dense) (wanted_nfa both.thompson es) l is),
      λ t is. serves_all (sparse_serves (settled both.dense) (wanted_nfa both.thompson es) t is),
    )
