use Rattle.rx_spec.proofs.Prelude.{common_steps, ◌≤◌, arith, length}
use Rattle.rx_equal.specs.Pairs.{rows_of}
use Rattle.rx_equal.proofs.Closed.{nothing_parts}
use Rattle.rx_equal.proofs.Meets.{named_all, named_closed, named_link, named_none, named_stop, named_equal}
use Rattle.rx_equal.proofs.Sides.{sides}
use Rattle.rx_equal.proofs.Tests.{false_by}
use Rattle.rx_equal.proofs.check.check_links.Given as given
use Rattle.rx_equal.proofs.check.check_links.Goals.{In_ok-units}
use Rattle.rx_equal.proofs.check.check_links.Goals as goal

pub loop-i-init : goal.loop-i-init
loop-i-init g c =
    let s = sides g.A.Automaton g.B.Automaton c.args.a.now c.args.b.now in
    let new = c.new-known.ensures s.ids s.others in
    record { kept = new.0; named = named_none s.t s.u c.args.links.now new.1 }

pub returns-in_default-clause-exact : goal.returns-in_default-clause-exact
returns-in_default-clause-exact g c = grind (arith, common_steps, named_stop)

pub returns-then-not-have_equal_labels-clause-exact : goal.returns-then-not-have_equal_labels-clause-exact
returns-then-not-have_equal_labels-clause-exact g c =
    let s = sides g.A.Automaton g.B.Automaton c.args.a.now c.args.b.now in
    false_by c.if-not-have_equal_labels.true c.have_equal_labels.ensures
    (named_equal c.loop-i.invariant.named c.get.result (rows_of s.ids s.others c.in-Some.pair) c.get.ensures
    c.in-Some.ensures.0)

pub loop-i-preserved : goal.loop-i-preserved
loop-i-preserved g c =
    let s = sides g.A.Automaton g.B.Automaton c.args.a.now c.args.b.now in
    let pushed = c.in_ok-push.ensures s.ids s.others c.loop-i.invariant.kept c.in-Some.ensures.1 in
    record {
      kept = pushed.0;
      named = named_link c.loop-i.invariant.named c.get.result (rows_of s.ids s.others c.in-Some.pair) c.get.ensures
          c.in-Some.ensures.0 (c.have_equal_labels.ensures.0 c.if-not-have_equal_labels.false) pushed.1;
    }

-- all links were looked at
past : (g : given.Over) (c : In_ok-units g) → length c.args.links.now ≤ c.loop-i.i
past g c = omega arith

pub returns-then-not-knows_nexts-clause-exact : goal.returns-then-not-knows_nexts-clause-exact
returns-then-not-knows_nexts-clause-exact g c =
    let end = past g (goal.at.returns-then-not-knows_nexts-clause-exact g c).In_ok-units in
    false_by c.if-not-knows_nexts.true c.knows_nexts.ensures
    (λ v p there unit h. (named_closed c.loop-i.invariant.named end v).nexts p unit there h)

pub returns-clause-exact : goal.returns-clause-exact
returns-clause-exact g c =
    let end = past g (goal.at.returns-clause-exact g c).In_ok-units in (
      λ yes. record {
        pairs = _;
        named = named_all c.loop-i.invariant.named end;
        closed = record {
          labels = c.loop-i.invariant.named.labels;
          nexts = λ p unit there h. c.knows_nexts.ensures.0 c.if-not-knows_nexts.false p there unit h;
          starts = c.knows_starts.ensures.0 yes;
        };
      },
      λ v. c.knows_starts.ensures.1 (named_closed c.loop-i.invariant.named end v).starts,
    )

pub returns-clause-nothing : goal.returns-clause-nothing
returns-clause-nothing g c = λ yes. nothing_parts ((returns-clause-exact g c).0 yes).closed
