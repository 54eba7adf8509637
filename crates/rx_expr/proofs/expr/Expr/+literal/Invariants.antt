use Rattle.rx_spec.proofs.Prelude.{length}
use Rattle.rx_expr.proofs.expr.Expr.+literal.Given as goal

abbrev pub decreases-literal : goal.decreases-literal
decreases-literal l = length l.bytes.now
