use Rattle.rx_spec.proofs.Prelude.{common_steps, true, false, arith, sym, ◌∙◌, err_from_is_err_and}
use Rattle.rx_script.proofs.ItemsAt.{items_turn, items_fail, items_end}
use Rattle.rx_script.proofs.expression.items.Goals as goal

pub returns-in_err-taken : goal.returns-in_err-taken
returns-in_err-taken c =
    let p = err_from_is_err_and c.from_residual.result c.from_residual.ensures.1 in
    let fault = c.in_err-taken.field-0.0 in
    rw (p.1, p.2) (items_fail fault c.words.invariant.so_far c.in-Some.ensures.words c.in_err-taken.ensures.given)

pub words-preserved : goal.words-preserved
words-preserved c = grind (arith, common_steps, items_turn)

pub returns-then-not-is_whole : goal.returns-then-not-is_whole
returns-then-not-is_whole c =
    let partial = sym c.is_whole.ensures ∙ c.if-not-is_whole.true in
    rw c.bad.ensures (items_end false c.words.invariant.so_far c.in_default.ensures.words partial)

pub returns : goal.returns
returns c =
    let complete = sym c.is_whole.ensures ∙ c.if-not-is_whole.false in
    items_end true c.words.invariant.so_far c.in_default.ensures.words complete
