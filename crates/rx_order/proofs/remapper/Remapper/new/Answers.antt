use Rattle.rx_spec.proofs.Prelude.{◌≡◌, ◌<◌, length, sym, ◌∙◌, arith, pow_pos}
use Rattle.rx_order.proofs.Prelude.{le-mul_of_pos_right}
use Rattle.rx_order.proofs.Renamed.{unmoved_arrangement, unmoved_fits, unmoved_rearranged}
use Rattle.rx_order.proofs.ExchangedRows.{range_more}
use Rattle.rx_order.proofs.remapper.Remapper.new.Goals as goal

pub overflow_cast-row : goal.overflow_cast-row
overflow_cast-row g c =
    let count = c.state_len-count.ensures.value in
    let low : c.loop-row.row < length (g.R.Remappable.transitions c.args.r.now).rows = omega arith in
    let id = c.state_len-count.ensures.rows.ids c.loop-row.row low in
    let least = le-mul_of_pos_right c.loop-row.row (pow_pos (g.R.Remappable.transitions c.args.r.now).stride2) in
    omega arith

pub loop-row-preserved : goal.loop-row-preserved
loop-row-preserved g c = c.in_ok-push.ensures.items ∙ rw c.loop-row.invariant (sym (range_more c.loop-row.row))

pub invariant_of-result : goal.invariant_of-result
invariant_of-result g c =
    let count = c.state_len-count.ensures.value in
    let all : c.loop-row.row ≡ length (g.R.Remappable.transitions c.args.r.now).rows = omega arith in
    rw (c.loop-row.invariant, all, c.stride2-stride2.ensures.value)
    (unmoved_arrangement (g.R.Remappable.transitions c.args.r.now) c.state_len-count.ensures.rows)

pub returns-clause-fits : goal.returns-clause-fits
returns-clause-fits g c =
    let count = c.state_len-count.ensures.value in
    let all : c.loop-row.row ≡ length (g.R.Remappable.transitions c.args.r.now).rows = omega arith in
    rw (c.loop-row.invariant, all, c.stride2-stride2.ensures.value)
    (unmoved_fits (g.R.Remappable.transitions c.args.r.now))

pub returns-clause-rearranged : goal.returns-clause-rearranged
returns-clause-rearranged g c =
    let count = c.state_len-count.ensures.value in
    let all : c.loop-row.row ≡ length (g.R.Remappable.transitions c.args.r.now).rows = omega arith in
    rw (c.loop-row.invariant, all, c.stride2-stride2.ensures.value)
    (unmoved_rearranged (g.R.Remappable.transitions c.args.r.now))
