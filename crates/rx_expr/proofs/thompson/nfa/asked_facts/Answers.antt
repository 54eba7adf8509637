use Rattle.rx_spec.proofs.Prelude.{arith, ◌<◌, length}
use Rattle.rx_expr.proofs.NfaFacts.{asked_more, asked_last}
use Rattle.rx_expr.proofs.thompson.nfa.asked_facts.Goals as goal

pub loop-row-preserved : goal.loop-row-preserved
loop-row-preserved c =
    let i = c.loop-row.row-index in
    let lt : i < length c.args.rows.now = omega arith in
    let before = c.loop-row.invariant in
    asked_more c.args.rows.now i _ lt c.row-item.is before c.asked_facts.ensures c.union-asked.ensures

pub returns : goal.returns
returns c = asked_last c.args.rows.now c.loop-row.row-index _ (omega arith) c.loop-row.invariant
