use Rattle.rx_spec.proofs.Prelude.{◌≡◌, ◌<◌, ◌≤◌, sym, subst, arith, ⊎_elim, cases_lt}
use Rattle.rx_stepper.proofs.Prelude.{IsAlone, stepping_of}
use Rattle.rx_stepper.proofs.stepper.Stepper.next_own.Goals as goal

pub loop-column-init : goal.loop-column-init
loop-column-init c = λ column from below. absurd (omega arith)

pub returns-then-has_own-clause-alone : goal.returns-then-has_own-clause-alone
returns-then-has_own-clause-alone c = c.loop-column.invariant

pub loop-column-preserved : goal.loop-column-preserved
loop-column-preserved c = λ column from below.
    ⊎_elim (λ (less : column < c.loop-column.column). c.loop-column.invariant column from less)
    (λ (past : c.loop-column.column ≤ column).
    let here : column ≡ c.loop-column.column = omega arith in
    subst (IsAlone (stepping_of c.args.self.now)) (sym here) (c.has_own.ensures c.if-has_own.false))
    (cases_lt column c.loop-column.column)

pub returns-clause-alone : goal.returns-clause-alone
returns-clause-alone c = λ column from below.
    c.loop-column.invariant column from (omega arith)
