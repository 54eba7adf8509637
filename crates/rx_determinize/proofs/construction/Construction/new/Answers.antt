use Rattle.rx_stepper.proofs.UnitLists.{units_more}
use Rattle.rx_determinize.proofs.construction.Construction.new.Goals as goal

pub loop-unit-preserved : goal.loop-unit-preserved
loop-unit-preserved c =
    units_more c.loop-unit.units.items c.push.new.self.items c.in-Some.unit c.loop-unit.unit-iterator c.next.new.self
    c.in_ok-push.ensures.items c.in-Some.ensures.steps c.loop-unit.invariant
