use Rattle.rx_spec.proofs.Prelude.{arith, ◌-◌, common_steps}
use Rattle.rx_sparse.proofs.DecodedRows.{next-found, next-none, next-passed}
use Rattle.rx_sparse.proofs.state.State.next.Goals as goal

pub loop-i-init : goal.loop-i-init
loop-i-init c = grind (arith, common_steps)

pub returns-then-has_class : goal.returns-then-has_class
returns-then-has_class c = grind (arith, common_steps, next-found)

pub loop-i-preserved : goal.loop-i-preserved
loop-i-preserved c = grind (arith, common_steps, next-passed)

pub returns : goal.returns
returns c = grind (arith, common_steps, next-none)
