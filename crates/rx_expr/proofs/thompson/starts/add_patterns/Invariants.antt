use Rattle.rx_expr.proofs.PatternRows.{Going}
use Rattle.rx_expr.proofs.thompson.starts.add_patterns.Given as goal

abbrev pub invariant-loop-k : goal.invariant-loop-k
invariant-loop-k l = Going l.direction l.exprs l.k l.rows.items l.starts.items
