use Rattle.rx_spec.proofs.Prelude.{refl, subst, arith, slice_get_within}
use Rattle.rx_equal.specs.Pairs.{pairs_of, rows_of}
use Rattle.rx_equal.specs.Places.{HaveNexts}
use Rattle.rx_equal.proofs.Kept.{kept_ids, kept_rows}
use Rattle.rx_equal.proofs.Sides.{sides}
use Rattle.rx_equal.proofs.Tests.{contains_get, map_contained, each_more, false_by}
use Rattle.rx_equal.proofs.check.knows_nexts.Goals as goal

pub knows_nexts_of-requires-clause-ids : goal.knows_nexts_of-requires-clause-ids
knows_nexts_of-requires-clause-ids g c = kept_ids c.requires.kept c.loop-i.i c.get.ensures

pub returns-then-not-knows_nexts_of : goal.returns-then-not-knows_nexts_of
returns-then-not-knows_nexts_of g c =
    false_by c.if-not-knows_nexts_of.true c.knows_nexts_of.ensures
    (λ all. all _ (contains_get _ c.loop-i.i _ (kept_rows c.requires.kept c.loop-i.i c.get.ensures)))

pub loop-i-preserved : goal.loop-i-preserved
loop-i-preserved g c =
    let s = sides g.A.Automaton g.B.Automaton c.args.a.now c.args.b.now in
    each_more (λ p. HaveNexts s.t s.u (pairs_of s.ids s.others c.args.known.now) (rows_of s.ids s.others p))
    c.args.known.now.list.items c.loop-i.i c.loop-i.invariant c.get.ensures
    (c.knows_nexts_of.ensures.0 c.if-not-knows_nexts_of.false)

pub returns : goal.returns
returns g c =
    let s = sides g.A.Automaton g.B.Automaton c.args.a.now c.args.b.now in
    let items = c.args.known.now.list.items in (
      λ _ p listed.
          (let from = map_contained (rows_of s.ids s.others) items p listed in
          let within = slice_get_within items from.place from.item from.there in
          subst (HaveNexts s.t s.u (pairs_of s.ids s.others c.args.known.now)) from.is
          (c.loop-i.invariant from.place (omega arith) from.item
          from.there)),
      λ _. refl,
    )
