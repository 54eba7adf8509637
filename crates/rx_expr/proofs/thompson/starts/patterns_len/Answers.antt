use Rattle.rx_spec.proofs.Prelude.{arith, subst, All, common_steps, take_all, IsLoopSafe}
use Rattle.std.proofs.lemmas.List.Elements.{All-more}
use Rattle.rx_expr.proofs.thompson.starts.patterns_len.Goals as goal

pub loop-expr-preserved : goal.loop-expr-preserved
loop-expr-preserved c =
    let safe = subst IsLoopSafe c.expr-item.is c.rows_len.ensures.safe in
    record {
      value = grind (arith, common_steps);
      safe = All-more IsLoopSafe c.args.exprs.now _ _ c.loop-expr-test.true c.loop-expr.invariant.safe safe;
    }

pub returns-clause-safe : goal.returns-clause-safe
returns-clause-safe c = subst (All IsLoopSafe) (take_all _ c.args.exprs.now (omega arith)) c.loop-expr.invariant.safe
