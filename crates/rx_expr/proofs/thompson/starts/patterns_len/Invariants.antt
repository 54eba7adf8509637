use Rattle.rx_spec.proofs.Prelude.{take}
use Rattle.rx_expr.proofs.PatternRows.{Counted}
use Rattle.rx_expr.proofs.thompson.starts.patterns_len.Given as goal

abbrev pub invariant-loop-expr : goal.invariant-loop-expr
invariant-loop-expr l = Counted (take l.expr-index l.exprs) l.rows
