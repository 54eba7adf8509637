use Rattle.rx_spec.proofs.Prelude.{on_ok_weaker}
use Rattle.std.proofs.lemmas.Result.{IfErr-weaker}
use Rattle.rx_build.specs.Builders.{both_of}
use Rattle.rx_build.specs.Settings.{settled}
use Rattle.rx_expr.specs.Compiles.{wanted_nfa}
use Rattle.rx_sparse_build.proofs.Limits.{table_of_exprs_refused}
use Rattle.rx_sparse_build.proofs.builder.DenseBuilderBuildSparse.build_many_sparse.Goals as goal

pub returns-clause-ok : goal.returns-clause-ok
returns-clause-ok c =
    let both = both_of c.args.self.now in
    c.made_sparse.ensures.ok (settled both.dense) (wanted_nfa both.thompson c.args.exprs.now) c.in_ok-table.ensures.ok

pub returns-clause-fits : goal.returns-clause-fits
returns-clause-fits c =
    let both = both_of c.args.self.now in
    on_ok_weaker c.made_sparse.result (λ build. record { nfa = c.in_ok-table.ensures.fits.nfa; build = build })
    (c.made_sparse.ensures.fits (settled both.dense) (wanted_nfa both.thompson c.args.exprs.now)
    c.in_ok-table.ensures.ok c.in_ok-table.ensures.fits.build)

pub returns-clause-err : goal.returns-clause-err
returns-clause-err c =
    let both = both_of c.args.self.now in
    let are = c.in_ok-table.ensures.fits in
    IfErr-weaker c.made_sparse.result _ _
    (λ e. table_of_exprs_refused (settled both.dense) both.thompson c.args.exprs.now are.nfa e.kind)
    (c.made_sparse.ensures.err (settled both.dense) (wanted_nfa both.thompson c.args.exprs.now)
    c.in_ok-table.ensures.ok are.build)
