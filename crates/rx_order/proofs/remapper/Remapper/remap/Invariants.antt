use Rattle.rx_order.proofs.NewIds.{AreNoted}
use Rattle.rx_order.proofs.remapper.Remapper.remap.Given as goal

abbrev pub invariant-loop-place : goal.invariant-loop-place
invariant-loop-place g l = AreNoted l.fn.self l.place l.map.items
