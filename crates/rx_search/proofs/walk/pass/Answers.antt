use Rattle.rx_spec.proofs.Prelude.{arith, common_steps}
use Rattle.rx_search.proofs.Passing.{passes_none}
use Rattle.rx_search.proofs.walk.pass.Goals as goal

pub returns-then-from-far-clause-passes : goal.returns-then-from-far-clause-passes
returns-then-from-far-clause-passes g c = grind (arith, common_steps, passes_none)

pub returns-in-One-clause-passes : goal.returns-in-One-clause-passes
returns-in-One-clause-passes g c = grind (arith, common_steps, passes_none)

pub returns-in-Reverse-clause-passes : goal.returns-in-Reverse-clause-passes
returns-in-Reverse-clause-passes g c = grind (arith, common_steps, passes_none)
