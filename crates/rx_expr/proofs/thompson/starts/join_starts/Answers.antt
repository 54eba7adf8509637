use Rattle.rx_spec.proofs.Prelude.{common_steps, arith, sym, subst, ◌+◌, ◌-◌, length, drop, id_count}
use Rattle.rx_expr.specs.Compiles.{AddsJoined}
use Rattle.rx_expr.proofs.JoinedStarts.{ok_failed, joined_last, joined_more, joined_room}
use Rattle.rx_expr.proofs.thompson.starts.join_starts.Goals as goal

pub returns-then-n-eq0 : goal.returns-then-n-eq0
returns-then-n-eq0 c = grind (arith, common_steps, ok_failed)

pub loop-round-init : goal.loop-round-init
loop-round-init c = joined_last c.args.starts.now (omega arith) c.index-starts-n.is

pub push-requires-in-loop-round : goal.push-requires-in-loop-round
push-requires-in-loop-round c =
    let r = c.loop-round in
    joined_room c.args.starts.now r.round id_count r.auto.round c.loop-round-test.true r.invariant c.requires

pub loop-round-preserved : goal.loop-round-preserved
loop-round-preserved c =
    let r = c.loop-round in
    let pushed = c.in_ok-start.ensures in
    let at = c.index-starts-n-in-loop-round.is in
    subst
    (AddsJoined
    (drop (length c.args.starts.now - (r.round + 1)) c.args.starts.now)
    c.args.rows.now.items
    c.push-in-loop-round.new.rows.items)
    (sym pushed.id)
    (joined_more c.args.starts.now r.round r.auto.round c.loop-round-test.true at r.invariant pushed.rows)
