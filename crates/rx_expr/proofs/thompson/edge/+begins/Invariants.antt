use Rattle.rx_spec.proofs.Prelude.{max, ◌+◌, ◌*◌, depth}
use Rattle.rx_expr.proofs.thompson.edge.+begins.Given as goal

abbrev pub decreases-begins_with_edge : goal.decreases-begins_with_edge
decreases-begins_with_edge l = 2 * depth l.expr.now

abbrev pub decreases-either_begins : goal.decreases-either_begins
decreases-either_begins l = 2 * max (depth l.front.now) (depth l.back.now) + 1
