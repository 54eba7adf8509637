use Rattle.rx_spec.proofs.Prelude.{◌++◌, [], ◌∷◌, ◌≡◌, ◌&&◌, ◌==◌, ◌*◌, ◌<◌, ◌∙◌, ℕ, Bool, false, length, nat_lt}
use Rattle.rx_spec.proofs.Prelude.{slice_index, ap₂, sym, subst, ⊎_elim, arith, list_any, cases_eq, get_or_append_left}
use Rattle.rx_spec.proofs.Prelude.{get_or_default, get_or_push, length_push, All-push}
use Rattle.rx_order.proofs.Prelude.{Layout, is_match_row, is_start_row, kind_by, row_count, stride}
use Rattle.rx_order.proofs.shuffle_rows.kinds.Goals as goal

pub loop-row-preserved : goal.loop-row-preserved
loop-row-preserved c =
    let l : Layout = c.args.dfa.now in
    let row : ℕ = c.loop-row.row in
    let kinds = c.loop-row.kinds.items in
    let count = c.loop-row.invariant.count in
    let starts = c.in_ok-starts.ensures.rows in
    let low : row < row_count l = omega (arith, c.len-row-end.ensures, starts.count, c.in_ok-starts.starts.ok.0) in
    let rows = c.in_ok-matches.ensures in
    let matches : c.index.result.now ≡ is_match_row l c.args.matches.now row =
    c.index.ensures
    ∙ get_or_default c.in_ok-matches.matches.items row c.index.result.now false (omega (arith, rows.count))
    ∙ rows.rows row low in
    let flag : c.index-in-loop-row.result.now ≡ list_any (λ id. id == row * stride l) l.starts =
    c.index-in-loop-row.ensures
    ∙ get_or_default c.in_ok-starts.starts.items row c.index-in-loop-row.result.now false (omega (arith, starts.count))
    ∙ starts.starts_are row low in
    let kind : c.kind.result ≡ kind_by row (is_match_row l c.args.matches.now row) false (is_start_row l row) =
    c.kind.ensures.value
    ∙ ap₂ (λ (m s : Bool). kind_by row m false (nat_lt 1 row && s)) matches flag in
    rw c.in_ok-push.ensures.items (record {
      count = omega (arith, length_push kinds c.kind.result);
      kinds = λ k h.
          ⊎_elim
          (λ (e : k ≡ row).
          subst (λ k. slice_index (kinds ++ c.kind.result ∷ []) k
          ≡ kind_by k (is_match_row l c.args.matches.now k) false (is_start_row l k))
          (sym e)
          (get_or_push kinds c.kind.result 0 row count ∙ kind))
          (λ (ne : k ≡ row → ⊥).
          let within : k < length kinds = omega arith in
          get_or_append_left kinds (c.kind.result ∷ []) 0 k within ∙ c.loop-row.invariant.kinds k (omega arith))
          (cases_eq k row);
      below = All-push (λ kind. kind < 8) kinds c.kind.result c.loop-row.invariant.below c.kind.ensures.below;
    })
