use Rattle.rx_spec.proofs.Prelude.{arith, common_steps}
use Rattle.rx_main.proofs.SearchAnswers.{fit_reply, span_told}
use Rattle.rx_main.proofs.search.pair_reply.Goals as goal

pub returns-then-not-fits : goal.returns-then-not-fits
returns-then-not-fits c = grind (arith, common_steps, span_told)

pub returns : goal.returns
returns c = grind (arith, common_steps, fit_reply)
