use Rattle.rx_spec.proofs.Prelude.{common_steps, arith}
use Rattle.rx_expr.proofs.Literals.{literal_joined, literal_shallow, only_memory}
use Rattle.rx_expr.proofs.expr.Expr.+literal.Goals as goal

pub returns-in_ok-second-in_default-clause-ok : goal.returns-in_ok-second-in_default-clause-ok
returns-in_ok-second-in_default-clause-ok t c = grind (arith, common_steps, literal_joined)

pub returns-in_ok-second-in_default-clause-err : goal.returns-in_ok-second-in_default-clause-err
returns-in_ok-second-in_default-clause-err t c =
    let first = c.in_ok-first-in_default.ensures.ok in
    let second = c.in_ok-second-in_default.ensures.ok in
    let halves = c.split_at.ensures in
    let joined = literal_joined c.args.bytes.now c.in_default.len_at_least first second halves.front halves.back in
    only_memory c.concat.result _ c.concat.ensures.err (literal_shallow c.args.bytes.now joined (omega arith))
