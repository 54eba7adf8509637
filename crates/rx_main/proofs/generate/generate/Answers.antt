use Rattle.rx_spec.proofs.Prelude.{arith, common_steps, IfOk-weaker}
use Rattle.rx_main.specs.Scripts.{BuildReplies}
use Rattle.rx_main.proofs.Refusals.{kind_told}
use Rattle.rx_main.proofs.generate.generate.Goals as goal

pub returns-in-Ok : goal.returns-in-Ok
returns-in-Ok c =
    let fits = rw (c.new.ensures, c.deref.ensures.value, c.in_ok-exprs.ensures) at c.in-Ok.ensures.fits in
    IfOk-weaker c.count_matches.result _ _ (λ reply is. BuildReplies.Answered fits is) c.count_matches.ensures

pub returns : goal.returns
returns c = grind (arith, common_steps, kind_told)
