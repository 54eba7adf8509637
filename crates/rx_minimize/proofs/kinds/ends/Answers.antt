use Rattle.rx_spec.proofs.Prelude.{common_steps, ◌≡◌, ◌*◌, ◌==◌, ◌∙◌, ℕ, false, slice_index, ap, sym, subst, arith}
use Rattle.rx_spec.proofs.Prelude.{list_any, get_or_default, row_of, is_match}
use Rattle.rx_minimize.proofs.Prelude.{IsId, Layout, ids_of, kind_of, stride, table_of}
use Rattle.rx_order.proofs.Sorted.{id_of_number}
use Rattle.rx_minimize.proofs.KeptEnds.{AreEndsUpTo, kind_ended, place_begun, place_ended}
use Rattle.rx_minimize.proofs.kinds.ends.Goals.{After-must-id}
use Rattle.rx_minimize.proofs.kinds.ends.Goals as goal

-- the id is that of the row that is kept at the place
at_row : (c : After-must-id)
    → IsId (ids_of c.args.dfa.now) c.must-id.result
    × (row_of (ids_of c.args.dfa.now) c.must-id.result ≡ slice_index c.args.firsts.now c.rows.place)
at_row c =
    id_of_number c.args.dfa.now c.in_ok-starts.ensures.are_rows (slice_index c.args.firsts.now c.rows.place)
    (c.requires.firsts.below c.rows.place c.rows-test.true) c.must-id.result
    (rw c.stride2-stride2.ensures.value at c.must-id.ensures)

pub is_match_state-is_match-requires : goal.is_match_state-is_match-requires
is_match_state-is_match-requires c = (at_row (goal.at.is_match_state-is_match-requires c).After-must-id).0

pub is_accel_state-is_accel-requires : goal.is_accel_state-is_accel-requires
is_accel_state-is_accel-requires c = (at_row (goal.at.is_accel_state-is_accel-requires c).After-must-id).0

pub kinds-init : goal.kinds-init
kinds-init c =
    let l : Layout = c.args.dfa.now in
    let row : ℕ = slice_index c.args.firsts.now c.rows.place in
    let starts = c.in_ok-starts.ensures.rows in
    let low = c.requires.firsts.below c.rows.place c.rows-test.true in
    let own = (at_row (goal.at.kinds-init c).After-must-id).1 in
    let matches : c.is_match_state-is_match.result ≡ is_match (table_of l) row =
    c.is_match_state-is_match.ensures ∙ ap (is_match (table_of l)) own in
    let accel : c.is_accel_state-is_accel.result ≡ (table_of l).is_accelerated row =
    c.is_accel_state-is_accel.ensures ∙ ap (λ r. (table_of l).is_accelerated r) own in
    let flag : c.index.result.now ≡ list_any (λ id. id == row * stride l) l.starts =
    c.index.ensures
    ∙ get_or_default c.in_ok-starts.starts.items row c.index.result.now false (omega (arith, starts.count, low))
    ∙ starts.starts_are row low in
    let kind : c.kind-other.result ≡ kind_of l row =
    grind (arith, common_steps, c.kind-other.ensures.value, c.index.result.now) in
    subst (AreEndsUpTo l c.args.firsts.now c.rows.ends c.rows.place) (sym kind) (place_begun c.rows.invariant)

pub kinds-preserved : goal.kinds-preserved
kinds-preserved c =
    kind_ended c.requires.ordered c.requires.firsts c.rows-test.true c.kinds.other c.kinds-test.true c.kinds.invariant

pub rows-preserved : goal.rows-preserved
rows-preserved c =
    let last : c.kinds.other ≡ 8 = omega (arith, c.kinds-test.false, c.kinds.auto.other-end) in
    place_ended (subst (AreEndsUpTo c.args.dfa.now c.args.firsts.now c.kinds.ends c.rows.place) last c.kinds.invariant)

pub returns-clause-to_end : goal.returns-clause-to_end
returns-clause-to_end c = grind (arith, common_steps)
