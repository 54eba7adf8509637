use Rattle.rx_spec.proofs.Prelude.{common_steps, ◌∙◌, ◌++◌, [], ◌∷◌, List, ap, sym, arith, map-range_with_len_more}
use Rattle.rx_order.proofs.Prelude.{Ranked, ranked_row}
use Rattle.rx_order.proofs.order.unsorted.Goals as goal

pub loop-number-preserved : goal.loop-number-preserved
loop-number-preserved c =
    let kinds = c.args.kinds.now in
    let ranks = c.args.ranks.now in
    let number = c.loop-number.number in
    c.in_ok-push.ensures.items
    ∙ ap (λ (rows : List Ranked). rows ++ ranked_row kinds ranks number ∷ []) c.loop-number.invariant
    ∙ sym (map-range_with_len_more (ranked_row kinds ranks) 0 number number (omega arith))

pub returns : goal.returns
returns c = grind (arith, common_steps)
