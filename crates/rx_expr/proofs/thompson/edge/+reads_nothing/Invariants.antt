use Rattle.rx_spec.proofs.Prelude.{depth}
use Rattle.rx_expr.proofs.thompson.edge.+reads_nothing.Given as goal

abbrev pub decreases-reads_nothing : goal.decreases-reads_nothing
decreases-reads_nothing l = depth l.expr.now
