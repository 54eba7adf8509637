-- A sparse table says what its dense one says.
use Rattle.rx_spec.proofs.Prelude.{common_steps, ◌≡◌, true, false, sym, ap, ◌∙◌, subst, arith, Build, Nfa, IsPower}
use Rattle.rx_spec.proofs.Prelude.{AreSame, IsTable, Table, row_after}
use Rattle.rx_spec.specs.Labels.{IsLeastFor}
use Rattle.rx_lemmas.proofs.SilentRows.{row_there}
use Rattle.rx_lemmas.proofs.Tables.{SameSettings-sym, SameSettings-trans, table_same}
use Rattle.rx_meaning.specs.Tables.{Serves}
use Rattle.rx_dense.specs.Layouts as dense
use Rattle.rx_build.specs.Built.{build_of}
use Rattle.rx_build.specs.Settings.{Settled}
use Rattle.rx_build.proofs.Served.{built_serves}
use Rattle.rx_sparse.specs.Facts.{IsSoundLayout}
use Rattle.rx_sparse.specs.Layouts.{Layout, Stored, row_count, table_of}
use Rattle.rx_sparse.specs.Sparse.{sparse_of}
use Rattle.rx_sparse.proofs.SparseTables.{same_table, sparse_sound, walks_same}
use Rattle.rx_sparse_build.specs.Built.{IsSparse}
use Rattle.rx_sparse_build.proofs.Ordered.{special_rows}

-- ---- a table that is the same as another

module _ {t u : Table} (same : AreSame t u) (is : IsTable t) (b : Build) where
  pub serves_same : Serves t b → Serves u b
  serves_same serves = record {
    is_table = table_same same serves.is_table;
    gives = λ mode begins start word w.
        ap u.machine.label (walks_same same is mode start word w)
        ∙ sym (same.labels (row_after t mode start word) (row_there t is mode start word w))
        ∙ serves.gives mode begins start word w;
    settings = SameSettings-trans (SameSettings-sym same.settings) serves.settings;
  }

  power_same : IsPower t b → IsPower u b
  power_same power = grind (arith, common_steps)

-- ---- the sparse table of a built one

module _ (s : Settled) (nfa : Nfa) (t : Stored) (is : IsSparse s nfa t) where
  same : AreSame (dense.table_of is.dense) (table_of (sparse_of is.dense))
  same = same_table is.dense is.shaped (special_rows is.dense is.shaped.rows is.built.in_order.ordered)

  -- it is the dense one, row by row
  pub dense_same : AreSame (dense.table_of is.dense) (table_of t.layout)
  dense_same =
      subst (λ (l : Layout). AreSame (dense.table_of is.dense) (table_of l))
      (sym (ap (λ (x : Stored). x.layout) is.sparse)) same

  pub sparse_serves : Serves (table_of t.layout) (build_of s nfa)
  sparse_serves =
      serves_same dense_same is.built.in_order.sound.is_table (build_of s nfa) (built_serves s nfa is.dense is.built)

  pub built_sound : IsSoundLayout t.layout
  built_sound =
      grind (
        arith,
        common_steps,
        sym (ap (λ (x : Stored). x.layout) is.sparse),
        sparse_sound,
        special_rows is.dense is.shaped.rows is.built.in_order.ordered,
      )

  pub sparse_power : s.minimize ≡ false → IsPower (table_of t.layout) (build_of s nfa)
  sparse_power e = power_same dense_same is.built.in_order.sound.is_table (build_of s nfa) (is.built.power e)

  pub sparse_least : s.minimize ≡ true → IsLeastFor (build_of s nfa) (row_count t.layout)
  sparse_least e = subst (IsLeastFor (build_of s nfa)) dense_same.size (is.built.least e)
