use Rattle.rx_spec.proofs.Prelude.{subst}
use Rattle.rx_dense.specs.Layouts.{IsShaped}
use Rattle.rx_sparse_build.proofs.Limits.{all_fit, made, made_refused}
use Rattle.rx_sparse_build.proofs.Ordered.{special_rows}
use Rattle.rx_sparse_build.proofs.builder.made_sparse.Goals as goal

pub to_sparse-requires-clause-special : goal.to_sparse-requires-clause-special
to_sparse-requires-clause-special c =
    special_rows c.args.table (subst IsShaped c.table.view_is c.table.invariant).rows c.requires.ordered

pub returns-clause-ok : goal.returns-clause-ok
returns-clause-ok c = λ s nfa is.
    let shaped = subst IsShaped c.table.view_is c.table.invariant in
    made s nfa c.args.table shaped is c.to_sparse.result c.to_sparse.ensures.table c.to_sparse.ensures.fits

pub returns-clause-fits : goal.returns-clause-fits
returns-clause-fits c = λ s nfa is fits.
    let shaped = subst IsShaped c.table.view_is c.table.invariant in
    all_fit s nfa c.args.table shaped is c.to_sparse.result fits c.to_sparse.ensures.fits

pub returns-clause-err : goal.returns-clause-err
returns-clause-err c = λ s nfa is fits.
    let shaped = subst IsShaped c.table.view_is c.table.invariant in
    made_refused s nfa c.args.table shaped is c.to_sparse.result fits c.to_sparse.ensures.refused
