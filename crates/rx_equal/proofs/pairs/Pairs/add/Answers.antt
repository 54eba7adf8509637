use Rattle.rx_spec.proofs.Prelude.{refl, nat_eq}
use Rattle.std.specs.HashSet.{contains}
use Rattle.rx_equal.specs.Pairs.{pairs_of, key_of}
use Rattle.rx_equal.proofs.Tests.{from_not}
use Rattle.rx_equal.proofs.Kept.{kept_more, knows_same, rows_more}
use Rattle.rx_equal.proofs.pairs.Pairs.add.Goals as goal

pub returns : goal.returns
returns c = λ ids others kept is.
    let before = c.args.self.now in
    let more = c.in_ok-push.ensures.items in (
      kept_more kept is more (c.in_ok-insert.ensures.known ids others (pairs_of ids others before) is kept.set_is),
      (
        λ there. c.in_ok-insert.ensures.added.0 c.if-not-branch.false ((kept.set_is c.args.pair.now is).1 there),
        rows_more ids others before.list.items c.push.new.self.items c.args.pair.now more,
      ),
    )

pub returns-then-not-branch : goal.returns-then-not-branch
returns-then-not-branch c = λ ids others kept is.
    let pairs = pairs_of ids others c.args.self.now in
    let p = c.args.pair.now in
    let before = from_not (contains nat_eq c.args.self.now.set.keys (key_of p)) c.in_ok-insert.field-0
    c.in_ok-insert.ensures.added.1 c.if-not-branch.true in
    let there = (kept.set_is p is).0 before in (
      record {
        are_ids = kept.are_ids;
        set_is = knows_same ids others c.insert.new.self pairs p there
            (c.in_ok-insert.ensures.known ids others pairs is kept.set_is);
      },
      (there, refl),
    )
