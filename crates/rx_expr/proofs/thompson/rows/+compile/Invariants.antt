use Rattle.rx_spec.proofs.Prelude.{◌+◌, ◌*◌, max, depth, copies, optional}
use Rattle.rx_expr.specs.Compiles.{Adds, maker}
use Rattle.rx_expr.proofs.thompson.rows.+compile.Given as goal

-- An expression calls a function for its form, and that one compiles parts, which are less deep.

abbrev pub decreases-compile : goal.decreases-compile
decreases-compile l = 3 * depth l.expr.now

abbrev pub decreases-repeat : goal.decreases-repeat
decreases-repeat l = 3 * depth l.body.now + 2

abbrev pub decreases-concat : goal.decreases-concat
decreases-concat l = 3 * max (depth l.front.now) (depth l.back.now) + 1

abbrev pub decreases-alternate : goal.decreases-alternate
decreases-alternate l = 3 * max (depth l.first.now) (depth l.second.now) + 1

abbrev pub decreases-repeat_exactly : goal.decreases-repeat_exactly
decreases-repeat_exactly l = 3 * depth l.body.now + 1

abbrev pub decreases-repeat_up_to : goal.decreases-repeat_up_to
decreases-repeat_up_to l = 3 * depth l.body.now + 1

abbrev pub decreases-repeat_forever : goal.decreases-repeat_forever
decreases-repeat_forever l = 3 * depth l.body.now + 1

-- So many copies, or optional rounds, were added.

abbrev pub invariant-repeat_exactly-loop-round : goal.invariant-repeat_exactly-loop-round
invariant-repeat_exactly-loop-round l =
    Adds (copies l.round (maker l.direction l.body)) l.fn.rows.items l.rows.items l.fn.next l.entry

abbrev pub invariant-repeat_up_to-loop-round : goal.invariant-repeat_up_to-loop-round
invariant-repeat_up_to-loop-round l =
    Adds (optional l.greedy l.round (maker l.direction l.body)) l.fn.rows.items l.rows.items l.fn.next l.entry
