-- A search that ends by an error, as a fault of the whole search.
use Rattle.rx_spec.proofs.Prelude.{arith, ◌≡◌, Err, List, common_steps, Expression, Query, MatchError}
use Rattle.rx_plan.specs.Plans.{Plan, outcome}
use Rattle.rx_regex.specs.Find.{Answers, PlanFits, Tells}
use Rattle.rx_regex.specs.declared.error.FindFault.{FindFault}

pub answers_fault : (p : Plan) (es : List Expression) (q : Query) (fault : FindFault) (error : MatchError)
    → PlanFits p es → outcome p es q ≡ Err error → Tells fault error → Answers p es q (Err fault)
answers_fault p es q (FindFault.Quit byte offset) error fits ends tells = grind (arith, common_steps)
answers_fault p es q (FindFault.Unsupported mode) error fits ends tells = grind (arith, common_steps)
answers_fault p es q _ error fits ends tells = absurd tells
