use Rattle.rx_spec.proofs.Prelude.{◌≡◌, ◌==◌, ◌*◌, ◌<◌, ◌∙◌, ◌++◌, [], ◌∷◌, ◌&&◌, ℕ, Bool, false, length, nat_lt}
use Rattle.rx_spec.proofs.Prelude.{slice_index, ap, ap₂, sym, subst, ⊎_elim, arith, list_any, cases_eq}
use Rattle.rx_spec.proofs.Prelude.{get_or_append_left, get_or_default, get_or_push, length_push, All-push, row_of}
use Rattle.rx_spec.proofs.Prelude.{is_match}
use Rattle.rx_order.proofs.Prelude.{IsId, Layout, are_needles, ids_of, is_start_row, kind_by, leaving_of, row_count}
use Rattle.rx_order.proofs.Prelude.{stride, table_of}
use Rattle.rx_order.proofs.Sorted.{id_of_number}
use Rattle.rx_order.proofs.accelerate_rows.kinds.Goals.{After-must-id}
use Rattle.rx_order.proofs.accelerate_rows.kinds.Goals as goal

-- the id is that of the row
at_row : (c : After-must-id)
    → IsId (ids_of c.args.dfa.now) c.must-id.result × (row_of (ids_of c.args.dfa.now) c.must-id.result ≡ c.loop-row.row)
at_row c =
    let starts = c.in_ok-starts.ensures in
    id_of_number c.args.dfa.now starts.are_rows c.loop-row.row
    (omega (arith, c.len-row-end.ensures, starts.rows.count, c.in_ok-starts.starts.ok.0)) c.must-id.result
    (rw c.stride2-stride2.ensures.value at c.must-id.ensures)

pub needles-requires : goal.needles-requires
needles-requires c = (at_row (goal.at.needles-requires c).After-must-id).0

pub is_match_state-requires : goal.is_match_state-requires
is_match_state-requires c = (at_row (goal.at.is_match_state-requires c).After-must-id).0

pub loop-row-preserved : goal.loop-row-preserved
loop-row-preserved c =
    let l : Layout = c.args.dfa.now in
    let row : ℕ = c.loop-row.row in
    let kinds = c.loop-row.kinds.items in
    let count = c.loop-row.invariant.count in
    let starts = c.in_ok-starts.ensures.rows in
    let low : row < row_count l = omega (arith, c.len-row-end.ensures, starts.count, c.in_ok-starts.starts.ok.0) in
    let own = (at_row (goal.at.loop-row-preserved c).After-must-id).1 in
    let matches : c.is_match_state.result ≡ is_match (table_of l) row =
    c.is_match_state.ensures ∙ ap (is_match (table_of l)) own in
    let skips : c.is_some-accelerated.result ≡ are_needles (leaving_of (table_of l) row) =
    c.is_some-accelerated.ensures ∙ c.needles.ensures.exactly
    ∙ ap (λ r. are_needles (leaving_of (table_of l) r)) own in
    let flag : c.index.result.now ≡ list_any (λ id. id == row * stride l) l.starts =
    c.index.ensures
    ∙ get_or_default c.in_ok-starts.starts.items row c.index.result.now false (omega (arith, starts.count))
    ∙ starts.starts_are row low in
    let kind : c.kind.result
    ≡ kind_by row (is_match (table_of l) row) (are_needles (leaving_of (table_of l) row)) (is_start_row l row) =
    c.kind.ensures.value
    ∙ ap₂ (λ (m a : Bool). kind_by row m a (nat_lt 1 row && c.index.result.now)) matches skips
    ∙ ap (λ s. kind_by row (is_match (table_of l) row) (are_needles (leaving_of (table_of l) row))
    (nat_lt 1 row && s)) flag in
    rw c.in_ok-push.ensures.items (record {
      count = omega (arith, length_push kinds c.kind.result);
      kinds = λ k h.
          ⊎_elim
          (λ (e : k ≡ row).
          subst (λ k. slice_index (kinds ++ c.kind.result ∷ []) k
          ≡ kind_by k (is_match (table_of l) k) (are_needles (leaving_of (table_of l) k)) (is_start_row l k))
          (sym e)
          (get_or_push kinds c.kind.result 0 row count ∙ kind))
          (λ (ne : k ≡ row → ⊥).
          let within : k < length kinds = omega arith in
          get_or_append_left kinds (c.kind.result ∷ []) 0 k within ∙ c.loop-row.invariant.kinds k (omega arith))
          (cases_eq k row);
      below = All-push (λ kind. kind < 8) kinds c.kind.result c.loop-row.invariant.below c.kind.ensures.below;
    })
