use Rattle.rx_refine.proofs.Prelude.{arith, common_steps, sum_by_more_le}
use Rattle.rx_refine.proofs.hopcroft.gather.Goals as goal

pub add_sources-requires-clause-room : goal.add_sources-requires-clause-room
add_sources-requires-clause-room g c = grind (arith, common_steps, sum_by_more_le)

pub returns-in_err-add_sources-clause-steps : goal.returns-in_err-add_sources-clause-steps
returns-in_err-add_sources-clause-steps g c = grind (arith, common_steps, sum_by_more_le)
