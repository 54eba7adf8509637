use Rattle.rx_spec.proofs.Prelude.{err_from_is_err_and}
use Rattle.rx_regex_builder.specs.Pairs.{IsFitBy, IsRefusedBy, both_of}
use Rattle.rx_regex_builder.proofs.Refusals.{reverse_refused}
use Rattle.rx_regex_builder.proofs.builder.Builder.build_many.Goals as goal

pub returns-in_err-reverse-clause-err : goal.returns-in_err-reverse-clause-err
returns-in_err-reverse-clause-err c =
    let p = err_from_is_err_and c.from_residual-in_err-reverse.result c.from_residual-in_err-reverse.ensures.1 in
    rw (p.1, p.2)
    (reverse_refused IsFitBy IsRefusedBy (both_of c.args.self.now) c.args.exprs.now c.in_ok-forward.ensures.fits
    c.in_err-reverse.field-0.0.kind c.in_err-reverse.ensures.err)

pub returns-clause-ok : goal.returns-clause-ok
returns-clause-ok c =
    rw (c.new.ensures.forward, c.new.ensures.reverse)
    (record { forward = c.in_ok-forward.ensures.ok; reverse = c.in_ok-reverse.ensures.ok })
