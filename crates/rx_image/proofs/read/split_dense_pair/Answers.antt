use Rattle.rx_spec.proofs.Prelude.{err_from_is_err_and}
use Rattle.rx_image.proofs.SecondTable.{second_fails}
use Rattle.rx_image.proofs.read.split_dense_pair.Goals as goal

pub returns-in_err-reverse-clause-read : goal.returns-in_err-reverse-clause-read
returns-in_err-reverse-clause-read c =
    let p = err_from_is_err_and c.from_residual-in_err-reverse.result c.from_residual-in_err-reverse.ensures.1 in
    rw (p.1, p.2)
    (second_fails c.args.order c.args.bytes.now c.in_ok-forward.rest.now c.in_ok-forward.forward _
    c.in_ok-forward.ensures.read c.in_err-reverse.ensures.read)
