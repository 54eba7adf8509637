use Rattle.rx_spec.proofs.Prelude.{rules, ◌≡◌, ◌*◌, ◌^◌, ◌<◌, ◌∙◌, sym, arith, mod-eq_of_lt, map-range_with_len_more}
use Rattle.rx_order.proofs.Prelude.{IsRowId-row, row_count, stride}
use Rattle.rx_order.proofs.places.Places.new.Goals as goal

pub loop-row-preserved : goal.loop-row-preserved
loop-row-preserved c =
    let row = c.loop-row.row in
    let count = c.state_len-count.ensures.value in
    let few = c.state_len-count.ensures.rows.few in
    let low : row < row_count c.args.dfa.now = omega arith in
    let below = (IsRowId-row c.args.dfa.now row low).below in
    let fits : row * stride c.args.dfa.now < 2 ^ 64 = omega arith in
    let id : c.must.result ≡ row * 2 ^ c.args.dfa.now.stride2 =
    c.must.ensures ∙ rw c.stride2-stride2.ensures.value (mod-eq_of_lt fits) in
    c.in_ok-push.ensures.items
    ∙ rw (c.loop-row.invariant, id)
    (sym (map-range_with_len_more (λ row. row * 2 ^ c.args.dfa.now.stride2) 0 row row (omega arith)))

pub returns : goal.returns
returns c = search rules
