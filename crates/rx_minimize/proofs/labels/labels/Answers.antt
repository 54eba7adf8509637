use Rattle.rx_spec.proofs.Prelude.{◌≡◌, ◌+◌, ◌*◌, ◌<◌, ◌≤◌, ◌∙◌, ℕ, length, ap, sym, subst, arith, ⊎_elim}
use Rattle.rx_spec.proofs.Prelude.{get_or_default, mod-eq_of_lt, row_of}
use Rattle.rx_minimize.proofs.Prelude.{AddsLabel, IsId, IsId-row_id, IsRowId-row, Layout, id_few, ids_of, row_count}
use Rattle.rx_minimize.proofs.Prelude.{row_of-row, stride, table_of}
use Rattle.rx_minimize.proofs.LabelLists.{AreLabelled, all_labelled, one_labelled}
use Rattle.rx_minimize.proofs.Shaped.{rows_few}
use Rattle.rx_minimize.proofs.labels.labels.Goals as goal

pub label-requires-clause-is_id : goal.label-requires-clause-is_id
label-requires-clause-is_id c =
    let l : Layout = c.args.dfa.now in
    let row : ℕ = c.loop-row.row in
    let low : row < row_count l = omega (arith, c.state_len-count.ensures.value) in
    let is = IsRowId-row l row low in
    let few = id_few l c.state_len-count.ensures.rows (row * stride l) is in
    let id : c.must-id.result ≡ row * stride l =
    c.must-id.ensures ∙ rw c.stride2-stride2.ensures.value (mod-eq_of_lt (omega (arith, few))) in
    subst (IsId (ids_of l)) (sym id) (IsId-row_id l (row * stride l) is)

pub label-requires-clause-few : goal.label-requires-clause-few
label-requires-clause-few c =
    let few = rows_few c.args.dfa.now c.state_len-count.ensures.rows in
    ⊎_elim (λ (none : length c.loop-row.lists ≡ 0). (let g : length c.loop-row.lists < 2147483648 = omega arith in g))
    (λ (some : length c.loop-row.lists + 2 ≤ c.loop-row.row).
    (let g : length c.loop-row.lists < 2147483648 = omega (arith, c.state_len-count.ensures.value) in g))
    c.loop-row.invariant.few

pub loop-row-preserved : goal.loop-row-preserved
loop-row-preserved c =
    let l : Layout = c.args.dfa.now in
    let row : ℕ = c.loop-row.row in
    let low : row < row_count l = omega (arith, c.state_len-count.ensures.value) in
    let is = IsRowId-row l row low in
    let few = id_few l c.state_len-count.ensures.rows (row * stride l) is in
    let id : c.must-id.result ≡ row * stride l =
    c.must-id.ensures ∙ rw c.stride2-stride2.ensures.value (mod-eq_of_lt (omega (arith, few))) in
    let own : row_of (ids_of l) c.must-id.result ≡ row = ap (row_of (ids_of l)) id ∙ row_of-row l row low in
    rw c.in_ok-push.ensures.items (one_labelled c.requires.is_table c.in_ok-label.field-0 c.loop-row.invariant
    (subst (λ r. AddsLabel c.loop-row.lists ((table_of l).machine.label r) c.in_ok-label.field-0 c.label.new.lists) own
    c.in_ok-label.ensures))

pub returns-clause-below : goal.returns-clause-below
returns-clause-below c =
    let last : c.loop-row.row ≡ row_count c.args.dfa.now = omega (arith, c.state_len-count.ensures.value) in
    λ k d h.
    let within : k < c.loop-row.row = omega (arith, c.loop-row.invariant.count) in
    let same = get_or_default c.loop-row.labels.items k d 0 h in
    omega (arith, same, c.loop-row.invariant.below k within, last)

pub returns-clause-numbered : goal.returns-clause-numbered
returns-clause-numbered c =
    let last : c.loop-row.row ≡ row_count c.args.dfa.now = omega (arith, c.state_len-count.ensures.value) in
    all_labelled c.loop-row.lists c.len.ensures.distinct (table_of c.args.dfa.now) c.loop-row.labels.items
    (subst (λ row. AreLabelled (table_of c.args.dfa.now) row c.loop-row.lists c.loop-row.labels.items) last
    c.loop-row.invariant)
