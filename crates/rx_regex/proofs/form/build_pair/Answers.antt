use Rattle.rx_spec.proofs.Prelude.{arith, common_steps, err_from_is_err_and}
use Rattle.rx_plan.specs.Plan.{plan_of}
use Rattle.rx_regex.proofs.PairImages.{same_patterns}
use Rattle.rx_regex.proofs.Refusals.{forward_refused, reverse_refused}
use Rattle.rx_regex.proofs.form.build_pair.Goals as goal

pub returns-in_err-forward-clause-err : goal.returns-in_err-forward-clause-err
returns-in_err-forward-clause-err g c = grind (arith, common_steps, err_from_is_err_and, forward_refused)

pub returns-in_err-reverse-clause-err : goal.returns-in_err-reverse-clause-err
returns-in_err-reverse-clause-err g c = grind (arith, common_steps, err_from_is_err_and, reverse_refused)

pub returns-clause-ok : goal.returns-clause-ok
returns-clause-ok g c =
    rw (c.new.ensures.forward, c.new.ensures.reverse)
    (g.met.T.TableForm.are_tables (plan_of c.args.plan.now) c.args.exprs.now c.in_ok-forward.forward
    c.in_ok-reverse.reverse c.in_ok-forward.ensures.ok c.in_ok-reverse.ensures.ok).0

pub returns-clause-written : goal.returns-clause-written
returns-clause-written g c =
    let planned = g.met.T.TableForm.are_tables (plan_of c.args.plan.now) c.args.exprs.now c.in_ok-forward.forward
    c.in_ok-reverse.reverse c.in_ok-forward.ensures.ok c.in_ok-reverse.ensures.ok in
    rw (c.new.ensures.forward, c.new.ensures.reverse)
    (record { writable = planned.1; patterns = same_patterns planned.0 })

pub returns-clause-fits : goal.returns-clause-fits
returns-clause-fits g c = grind (arith, common_steps)
