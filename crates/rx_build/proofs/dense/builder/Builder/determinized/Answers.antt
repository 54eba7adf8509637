use Rattle.rx_spec.proofs.Prelude.{err_from_is_err_and}
use Rattle.rx_expr.specs.Nfa.{meaning}
use Rattle.rx_build.specs.Settings.{asked, settled}
use Rattle.rx_build.proofs.Beginnings.{begun_by, begun_with, fits_by, made_by, refused_by}
use Rattle.rx_build.proofs.dense.builder.Builder.determinized.Goals as goal

pub run-requires : goal.run-requires
run-requires c =
    let s = settled (asked c.args.self.now.config) in
    let by =
    begun_by {s = s} {nfa = meaning c.args.nfa.now} c.quit_bytes-quit.ensures c.get_quit_bytes.ensures
    c.get_unicode_word_boundary.ensures c.determinizer.ensures c.in_ok-dfa.ensures in
    record { begun = (s.byte_classes, begun_with by) }

pub returns-in_err-run-clause-err : goal.returns-in_err-run-clause-err
returns-in_err-run-clause-err c =
    let residual = c.from_residual-in_err-run in
    let p = err_from_is_err_and residual.result residual.ensures.1 in
    let s = settled (asked c.args.self.now.config) in
    let by =
    begun_by {s = s} {nfa = meaning c.args.nfa.now} c.quit_bytes-quit.ensures c.get_quit_bytes.ensures
    c.get_unicode_word_boundary.ensures c.determinizer.ensures c.in_ok-dfa.ensures in
    rw (p.1, p.2) (refused_by by c.in_err-run.field-0.0.kind (c.in_err-run.ensures.err s.byte_classes (begun_with by)))

pub returns-clause-made : goal.returns-clause-made
returns-clause-made c =
    let s = settled (asked c.args.self.now.config) in
    let by =
    begun_by {s = s} {nfa = meaning c.args.nfa.now} c.quit_bytes-quit.ensures c.get_quit_bytes.ensures
    c.get_unicode_word_boundary.ensures c.determinizer.ensures c.in_ok-dfa.ensures in
    made_by by c.in_ok-run.ensures.ok

pub returns-clause-fits : goal.returns-clause-fits
returns-clause-fits c =
    let s = settled (asked c.args.self.now.config) in
    let by =
    begun_by {s = s} {nfa = meaning c.args.nfa.now} c.quit_bytes-quit.ensures c.get_quit_bytes.ensures
    c.get_unicode_word_boundary.ensures c.determinizer.ensures c.in_ok-dfa.ensures in
    fits_by by (c.in_ok-run.ensures.fits s.byte_classes (begun_with by))
