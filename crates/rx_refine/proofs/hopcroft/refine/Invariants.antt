use Rattle.rx_refine.proofs.Prelude.{get_or, ◌-◌}
use Rattle.rx_refine.specs.Kept.{parts}
use Rattle.rx_refine.proofs.Sweeps.{IsSweep}
use Rattle.rx_refine.proofs.hopcroft.refine.Given as goal

abbrev pub invariant-loop-seen : goal.invariant-loop-seen
invariant-loop-seen g l =
    IsSweep l.incoming l.first l.fn.steps (parts l.partition) l.taken.items l.steps l.seen l.incoming.units

abbrev pub decreases-loop-seen : goal.decreases-loop-seen
decreases-loop-seen g l = l.incoming.rows - l.seen

abbrev pub invariant-loop-unit : goal.invariant-loop-unit
invariant-loop-unit g l = IsSweep l.incoming l.first l.fn.steps (parts l.partition) l.taken.items l.steps l.seen l.unit

abbrev pub invariant-loop-partition : goal.invariant-loop-partition
invariant-loop-partition g l =
    IsSweep l.incoming l.first l.fn.steps (parts l.partition) l.taken.items l.steps l.seen l.unit

abbrev pub decreases-loop-partition : goal.decreases-loop-partition
decreases-loop-partition g l = l.incoming.rows - get_or l.taken.items l.unit 0
