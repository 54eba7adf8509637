use Rattle.rx_spec.proofs.Prelude.{common_steps, ◌≡◌, ◌*◌, length, sym, subst, arith, pow_pos}
use Rattle.rx_determinize.proofs.Prelude.{IsRowId, multiple_below, stride}
use Rattle.rx_determinize.proofs.RowIds.{row_is_id, row_id as row_at}
use Rattle.rx_determinize.proofs.states.row_id.Goals as goal

same : (c : goal.After-must) → c.must.result ≡ c.args.row * stride c.args.dfa.now
same c =
    let l = c.args.dfa.now in
    let rows = c.state_len-rows.ensures.rows in
    let below = multiple_below c.args.row (stride l) (length l.words) (pow_pos l.stride2) c.requires in
    grind (arith, common_steps)

pub returns-clause-is_id : goal.returns-clause-is_id
returns-clause-is_id c = grind (arith, common_steps, same, row_is_id)

pub returns-clause-is_row : goal.returns-clause-is_row
returns-clause-is_row c =
    subst (IsRowId c.args.dfa.now) (sym (same c))
    (row_at c.args.dfa.now c.args.row c.state_len-rows.ensures.rows c.requires)
