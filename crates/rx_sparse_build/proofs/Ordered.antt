-- The special ids of a table whose rows lie in order are ids of rows.
use Rattle.rx_spec.proofs.Prelude.{◌≡◌, ℕ, ◌<◌, ◌≤◌, length, sym, ◌∙◌, subst, ⊎_elim, arith, max, cases_lt, le-div}
use Rattle.rx_spec.proofs.Prelude.{pow_pos}
use Rattle.rx_dense.specs.Layouts.{AreRows, IsRowId, Layout, row_count, stride}
use Rattle.rx_dense.proofs.Rows.{IsRowId-row}
use Rattle.rx_dense.proofs.Shaped.{zero_id}
use Rattle.rx_order.specs.RowOrder.{IsOrdered, IsRange}
use Rattle.rx_sparse.specs.Sparse.{AreSpecialRows}

module _ (l : Layout) (rows : AreRows l) where
  -- dead is a row
  pub zero_row : IsRowId l 0
  zero_row = zero_id l (let two = rows.two in omega arith)

  -- the first and the last row of a range, or dead
  ends : {first last : ℕ} → IsRange l first last → IsRowId l first × IsRowId l last
  ends {first} {last} range =
      ⊎_elim
      (λ (none : (first ≡ 0) × (last ≡ 0)).
      (subst (IsRowId l) (sym none.0) zero_row, subst (IsRowId l) (sym none.1) zero_row))
      (λ (some : (stride l < first) × (first ≤ last) × IsRowId l first × IsRowId l last). (some.2, some.3))
      range

  -- the greater of two ids of rows is one
  pub greater : (a b : ℕ) → IsRowId l a → IsRowId l b → IsRowId l (max a b)
  greater a b is also =
      ⊎_elim
      (λ (less : a < b). (let e : b ≡ max a b = omega arith in subst (IsRowId l) e also))
      (λ (more : b ≤ a). (let e : a ≡ max a b = omega arith in subst (IsRowId l) e is))
      (cases_lt a b)

  -- so all special ids are ids of rows
  pub special_rows : IsOrdered l → AreSpecialRows l
  special_rows ordered =
      let two : 2 ≤ row_count l = le-div 2 (length l.words) (stride l) (pow_pos l.stride2) rows.two in
      let quit : IsRowId l l.special.quit =
      subst (IsRowId l) ((omega arith) ∙ sym ordered.quit) (IsRowId-row l 1 (omega arith)) in
      let matches = ends ordered.matches in
      let accels = ends ordered.accels in
      let starts = ends ordered.starts in
      record {
        max =
            subst (IsRowId l) (sym ordered.max)
            (greater _ _ (greater _ _ (greater _ _ quit matches.1) accels.1) starts.1);
        quit = quit;
        min_match = matches.0;
        max_match = matches.1;
        min_accel = accels.0;
        max_accel = accels.1;
        min_start = starts.0;
        max_start = starts.1;
      }
