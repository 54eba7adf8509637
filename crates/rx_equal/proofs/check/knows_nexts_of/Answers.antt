use Rattle.rx_spec.proofs.Prelude.{refl, sym, subst, arith, Contains}
use Rattle.rx_base.specs.Unit.{unit_number}
use Rattle.rx_equal.specs.Evidence.{next_pair}
use Rattle.rx_equal.specs.Pairs.{pairs_of, rows_of}
use Rattle.rx_equal.proofs.Representatives.{nexts_by, unit_of}
use Rattle.rx_equal.proofs.Sides.{sides}
use Rattle.rx_equal.proofs.Tests.{each_more, false_by}
use Rattle.rx_equal.proofs.check.knows_nexts_of.Goals as goal

pub returns-then-not-contains : goal.returns-then-not-contains
returns-then-not-contains g c =
    let s = sides g.A.Automaton g.B.Automaton c.args.a.now c.args.b.now in
    false_by c.if-not-contains.true (c.contains.ensures s.ids s.others c.requires.kept c.next_of.ensures.ids)
    (λ nexts. subst (Contains (pairs_of s.ids s.others c.args.known.now)) (sym c.next_of.ensures.rows)
    (nexts (unit_number c.get.result) (unit_of c.requires.represent c.loop-i.i c.get.ensures)))

pub loop-i-preserved : goal.loop-i-preserved
loop-i-preserved g c =
    let s = sides g.A.Automaton g.B.Automaton c.args.a.now c.args.b.now in
    let pairs = pairs_of s.ids s.others c.args.known.now in
    let q = rows_of s.ids s.others c.args.pair.now in
    each_more (λ v. Contains pairs (next_pair s.t s.u q (unit_number v))) c.args.units.now c.loop-i.i
    c.loop-i.invariant c.get.ensures
    (subst (Contains pairs) c.next_of.ensures.rows
    ((c.contains.ensures s.ids s.others c.requires.kept c.next_of.ensures.ids).0 c.if-not-contains.false))

pub returns : goal.returns
returns g c =
    let s = sides g.A.Automaton g.B.Automaton c.args.a.now c.args.b.now in (
      λ _. nexts_by (pairs_of s.ids s.others c.args.known.now) c.requires.represent
          (g.met.A.Automaton.are_ids c.args.a.now) (g.met.B.Automaton.are_ids c.args.b.now) c.requires.ids
          c.loop-i.invariant (omega arith),
      λ _. refl,
    )
