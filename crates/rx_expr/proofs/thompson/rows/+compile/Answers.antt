use Rattle.rx_spec.proofs.Prelude.{common_steps, arith, ◌+◌, rows_count}
use Rattle.rx_spec.specs.Rows as spec
use Rattle.rx_lemmas.proofs.Rows.{copies_make, optional_makes}
use Rattle.rx_expr.specs.Compiles.{maker}
use Rattle.rx_expr.proofs.ExpressionRows.{maker_makes, length-counted, adds_optional, adds_no_round, adds_loop}
use Rattle.rx_expr.proofs.ExpressionRows.{adds_no_copy, adds_copy, round_fits, adds_entered, ok_same, adds_bare}
use Rattle.rx_expr.proofs.ExpressionRows.{adds_bare_copies, maker-empty, maker-class, maker-look, maker-concat}
use Rattle.rx_expr.proofs.ExpressionRows.{maker-concat_reverse, maker-alternate, maker-repeat, rows-concat}
use Rattle.rx_expr.proofs.ExpressionRows.{rows-alternate, rows-repeat}
use Rattle.rx_expr.proofs.thompson.rows.+compile.Goals as goal

-- ---- an expression

pub compile-returns-then-rows_len-eq0 : goal.compile-returns-then-rows_len-eq0
compile-returns-then-rows_len-eq0 t c = grind (arith, common_steps, adds_bare)

pub compile-returns-in-Empty : goal.compile-returns-in-Empty
compile-returns-in-Empty t c = grind (arith, common_steps, maker-empty)

pub compile-returns-in-Class : goal.compile-returns-in-Class
compile-returns-in-Class t c = grind (arith, common_steps, maker-class)

pub compile-returns-in-Look : goal.compile-returns-in-Look
compile-returns-in-Look t c = grind (arith, common_steps, maker-look)

pub compile-concat-requires : goal.compile-concat-requires
compile-concat-requires t c = grind (arith, common_steps, rows-concat)

pub compile-returns-in-Forward : goal.compile-returns-in-Forward
compile-returns-in-Forward t c =
    let same = maker-concat c.args.direction c.in-Forward.is c.in-Concat.ensures.whole in
    ok_same c.concat.result _ _ _ same c.concat.ensures

pub compile-concat-requires-in-Reverse : goal.compile-concat-requires-in-Reverse
compile-concat-requires-in-Reverse t c = grind (arith, common_steps, rows-concat)

pub compile-returns-in-Reverse : goal.compile-returns-in-Reverse
compile-returns-in-Reverse t c =
    let same = maker-concat_reverse c.args.direction c.in-Reverse.is c.in-Concat.ensures.whole in
    ok_same c.concat-in-Reverse.result _ _ _ same c.concat-in-Reverse.ensures

pub compile-alternate-requires : goal.compile-alternate-requires
compile-alternate-requires t c = grind (arith, common_steps, rows-alternate)

pub compile-returns-in-Alternate : goal.compile-returns-in-Alternate
compile-returns-in-Alternate t c =
    let same = maker-alternate c.args.direction c.in-Alternate.ensures.whole in
    ok_same c.alternate.result _ _ _ same c.alternate.ensures

pub compile-repeat-requires : goal.compile-repeat-requires
compile-repeat-requires t c = grind (arith, common_steps, rows-repeat)

pub compile-returns-in-Repeat : goal.compile-returns-in-Repeat
compile-returns-in-Repeat t c = grind (arith, common_steps, maker-repeat)

-- ---- a concatenation and an alternation

pub concat-compile-requires-2 : goal.concat-compile-requires-2
concat-compile-requires-2 t c = grind (arith, common_steps, maker_makes)

pub alternate-compile-requires-2 : goal.alternate-compile-requires-2
alternate-compile-requires-2 t c = grind (arith, common_steps, maker_makes)

pub alternate-push-requires : goal.alternate-push-requires
alternate-push-requires t c = grind (arith, common_steps, maker_makes)

-- ---- repetitions

pub repeat-repeat_exactly-requires : goal.repeat-repeat_exactly-requires
repeat-repeat_exactly-requires t c = grind (arith, common_steps, maker_makes)

pub repeat-repeat_exactly-requires-in-Some : goal.repeat-repeat_exactly-requires-in-Some
repeat-repeat_exactly-requires-in-Some t c = grind (arith, common_steps, optional_makes, maker_makes)

pub repeat_exactly-returns-then-rows_len-eq0 : goal.repeat_exactly-returns-then-rows_len-eq0
repeat_exactly-returns-then-rows_len-eq0 t c = grind (arith, common_steps, adds_bare_copies)

pub repeat_exactly-loop-round-init : goal.repeat_exactly-loop-round-init
repeat_exactly-loop-round-init t c = adds_no_copy (maker c.args.direction c.args.body.now)

pub repeat_exactly-compile-requires : goal.repeat_exactly-compile-requires
repeat_exactly-compile-requires t c =
    let makes = copies_make _ _ (maker_makes c.args.direction c.args.body.now) c.loop-round.round in
    let n = length-counted makes c.loop-round.invariant in
    let more = round_fits c.loop-round.round c.args.count (rows_count c.args.body.now) c.loop-round-test.true in
    (omega arith, omega arith)

pub repeat_exactly-loop-round-preserved : goal.repeat_exactly-loop-round-preserved
repeat_exactly-loop-round-preserved t c = adds_copy c.loop-round.round c.loop-round.invariant c.in_ok-entry.ensures

pub repeat_up_to-loop-round-init : goal.repeat_up_to-loop-round-init
repeat_up_to-loop-round-init t c = grind (arith, common_steps, adds_no_round)

pub repeat_up_to-compile-requires : goal.repeat_up_to-compile-requires
repeat_up_to-compile-requires t c =
    let makes = optional_makes c.args.greedy _ _ (maker_makes c.args.direction c.args.body.now) c.loop-round.round in
    let n = length-counted makes c.loop-round.invariant in
    let more = round_fits c.loop-round.round c.args.count (rows_count c.args.body.now + 1) c.loop-round-test.true in
    (omega arith, omega arith)

pub repeat_up_to-push-requires : goal.repeat_up_to-push-requires
repeat_up_to-push-requires t c =
    let makes = maker_makes c.args.direction c.args.body.now in
    let n = length-counted (optional_makes c.args.greedy _ _ makes c.loop-round.round) c.loop-round.invariant in
    let m = length-counted makes c.in_ok-body_entry.ensures in
    omega (arith, round_fits c.loop-round.round c.args.count (rows_count c.args.body.now + 1) c.loop-round-test.true)

pub repeat_up_to-loop-round-preserved : goal.repeat_up_to-loop-round-preserved
repeat_up_to-loop-round-preserved t c =
    adds_entered c.in_ok-entry.ensures.id (adds_optional c.args.greedy c.loop-round.round c.choice.result
    c.loop-round.invariant c.in_ok-body_entry.ensures c.choice.ensures c.in_ok-entry.ensures.rows)

pub repeat_forever-returns : goal.repeat_forever-returns
repeat_forever-returns t c = grind (arith, common_steps, adds_loop)
