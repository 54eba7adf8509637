use Rattle.rx_build.specs.Builders.{both_of}
use Rattle.rx_build.specs.Settings.{settled}
use Rattle.rx_expr.specs.Nfa.{meaning}
use Rattle.rx_sparse_build.proofs.builder.DenseBuilderBuildSparse.build_sparse_from_nfa.Goals as goal

pub returns-clause-ok : goal.returns-clause-ok
returns-clause-ok c =
    c.made_sparse.ensures.ok (settled (both_of c.args.self.now).dense) (meaning c.args.nfa.now)
    c.in_ok-table.ensures.ok

pub returns-clause-fits : goal.returns-clause-fits
returns-clause-fits c =
    c.made_sparse.ensures.fits (settled (both_of c.args.self.now).dense) (meaning c.args.nfa.now)
    c.in_ok-table.ensures.ok c.in_ok-table.ensures.fits

pub returns-clause-err : goal.returns-clause-err
returns-clause-err c =
    c.made_sparse.ensures.err (settled (both_of c.args.self.now).dense) (meaning c.args.nfa.now)
    c.in_ok-table.ensures.ok c.in_ok-table.ensures.fits
