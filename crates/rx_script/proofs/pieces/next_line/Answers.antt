use Rattle.rx_spec.proofs.Prelude.{◌≢◌, Some, None, arith, length, sym, ◌∙◌, eqb-false}
use Rattle.rx_script.proofs.Cut.{lines_next}
use Rattle.rx_script.proofs.pieces.next_line.Goals as goal

pub returns-in-Some-clause-lines : goal.returns-in-Some-clause-lines
returns-in-Some-clause-lines c =
    let text = c.args.text.now in
    let some : length text ≢ 0 = eqb-false _ _ (sym c.is_empty.ensures ∙ c.if-is_empty.false) in
    let fewer = rw c.in-Some.is at c.cut.ensures.fewer in
    lines_next text c.cut.result.0.now (Some c.in-Some.after.now) (omega arith) fewer
    (rw c.in-Some.is at c.cut.ensures.pieces)

pub returns-in-None-clause-lines : goal.returns-in-None-clause-lines
returns-in-None-clause-lines c =
    let text = c.args.text.now in
    let some : length text ≢ 0 = eqb-false _ _ (sym c.is_empty.ensures ∙ c.if-is_empty.false) in
    let fewer = rw c.in-None.is at c.cut.ensures.fewer in
    lines_next text c.cut.result.0.now None (omega arith) fewer (rw c.in-None.is at c.cut.ensures.pieces)
