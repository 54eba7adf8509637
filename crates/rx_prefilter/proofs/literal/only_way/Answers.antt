use Rattle.rx_spec.proofs.Prelude.{common_steps, [], arith}
use Rattle.rx_prefilter.proofs.literal.only_way.Goals as goal

pub loop-init : goal.loop-init
loop-init g c = grind (arith, common_steps)

pub way_on-requires : goal.way_on-requires
way_on-requires g c = c.loop.invariant.is_id

pub loop-preserved : goal.loop-preserved
loop-preserved g c = grind (arith, common_steps)

pub returns-clause-start : goal.returns-clause-start
returns-clause-start g c = c.loop.invariant.first

pub returns-clause-rows : goal.returns-clause-rows
returns-clause-rows g c = record { count = c.loop.invariant.count; are_ids = c.loop.invariant.are_ids }
