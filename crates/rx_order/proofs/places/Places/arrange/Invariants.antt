use Rattle.rx_order.proofs.Moved.{ArePlaced}
use Rattle.rx_order.proofs.places.Places.arrange.Given as goal

abbrev pub invariant-loop-place : goal.invariant-loop-place
invariant-loop-place l = ArePlaced l.fn.dfa l.dfa l.lying.items l.ids.items l.order l.place
