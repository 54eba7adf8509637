use Rattle.rx_spec.proofs.Prelude.{arith, ◌<◌, ap, sym, subst, length, ◌+◌}
use Rattle.rx_spec.specs.Rows as spec
use Rattle.rx_expr.proofs.Lists.{drop_at}
use Rattle.rx_expr.proofs.ExpressionRows.{adds_before}
use Rattle.rx_expr.proofs.PatternRows.{Going, going_more, going_last, length-le-patterns_count}
use Rattle.rx_expr.proofs.thompson.starts.add_patterns.Goals as goal

pub pattern_of-pattern-requires : goal.pattern_of-pattern-requires
pattern_of-pattern-requires c = omega (arith, length-le-patterns_count c.args.exprs.now)

pub loop-k-preserved : goal.loop-k-preserved
loop-k-preserved c =
    let k = c.loop-k.k in
    let lt : k < length c.args.exprs.now = omega arith in
    let split = drop_at c.args.exprs.now k lt c.index-exprs-k.is in
    let is = ap spec.Match c.pattern_of-pattern.ensures in
    let accepted = c.in_ok-accept.ensures in
    let added = adds_before accepted.id c.in_ok-start.ensures in
    subst
    (λ starts. Going c.args.direction c.args.exprs.now (k + 1) c.compile.new.rows.items starts)
    (sym c.in_ok-push.ensures.items)
    (going_more k _ c.loop-k.invariant split is accepted.rows added)

pub returns : goal.returns
returns c = going_last c.loop-k.invariant (omega arith)
