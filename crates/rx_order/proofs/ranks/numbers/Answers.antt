use Rattle.rx_spec.proofs.Prelude.{common_steps, ◌∙◌, sym, arith}
use Rattle.rx_order.proofs.ExchangedRows.{range_more}
use Rattle.rx_order.proofs.ranks.numbers.Goals as goal

pub loop-row-preserved : goal.loop-row-preserved
loop-row-preserved c = c.in_ok-push.ensures.items ∙ rw c.loop-row.invariant (sym (range_more c.loop-row.row))

pub returns : goal.returns
returns c = grind (arith, common_steps)
