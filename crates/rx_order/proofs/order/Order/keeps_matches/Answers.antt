use Rattle.rx_spec.proofs.Prelude.{rules, arith, common_steps, cases_eq, false≢true, get_or_default}
use Rattle.rx_order.proofs.order.Order.keeps_matches.Goals as goal

pub loop-place-init : goal.loop-place-init
loop-place-init c = λ place low high. absurd (omega (arith, low, high))

pub loop-place-preserved : goal.loop-place-preserved
loop-place-preserved c = grind (arith, common_steps, get_or_default, cases_eq)

pub returns : goal.returns
returns c = grind (arith, common_steps)

pub returns-then-index-place : goal.returns-then-index-place
returns-then-index-place c = search (rules, get_or_default, false≢true)
