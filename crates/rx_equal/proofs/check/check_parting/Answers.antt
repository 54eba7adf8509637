use Rattle.rx_spec.proofs.Prelude.{◌≡◌, map, arith, run}
use Rattle.rx_base.specs.Unit.{unit_number}
use Rattle.rx_equal.specs.Evidence.{next_pair}
use Rattle.rx_equal.specs.Pairs.{rows_of}
use Rattle.rx_equal.proofs.Sides.{sides}
use Rattle.rx_equal.proofs.Words.{word_on, word_end, alike_from_labels, labels_from_alike}
use Rattle.rx_equal.proofs.Tests.{not_both, not_intro}
use Rattle.rx_equal.proofs.check.check_parting.Goals as goal

pub loop-i-preserved : goal.loop-i-preserved
loop-i-preserved g c =
    let s = sides g.A.Automaton g.B.Automaton c.args.a.now c.args.b.now in
    let rows = rows_of s.ids s.others in
    record {
      ids = c.next_of-pair.ensures.ids;
      left = word_on (next_pair s.t s.u) c.args.parting.now.word c.loop-i.i c.get.result (rows c.loop-i.pair)
          (rows c.next_of-pair.result) c.get.ensures c.next_of-pair.ensures.rows c.loop-i.invariant.left;
    }

pub returns-after-loop-i : goal.returns-after-loop-i
returns-after-loop-i g c =
    let s = sides g.A.Automaton g.B.Automaton c.args.a.now c.args.b.now in
    let rows = rows_of s.ids s.others in
    let word = map unit_number c.args.parting.now.word in
    let begins = c.in-Rows.ensures.0 in
    let leads : run (next_pair s.t s.u) (rows c.in-Rows.start) word ≡ rows c.loop-i.pair =
    word_end (next_pair s.t s.u) c.args.parting.now.word c.loop-i.i (rows c.loop-i.pair)
    (omega arith)
    c.loop-i.invariant.left in
    let equal = c.have_equal_labels.ensures in (
      λ yes. (
        c.is_mode.ensures.0 c.if-not-is_mode.false,
        λ alike. not_both c.have_equal_labels.result yes
            (equal.1 (labels_from_alike s.t s.u c.args.parting.now.place (rows c.in-Rows.start) (rows c.loop-i.pair)
            word begins leads alike)),
      ),
      λ parting. not_intro c.have_equal_labels.result (λ yes. parting.1
          (alike_from_labels s.t s.u c.args.parting.now.place (rows c.in-Rows.start) (rows c.loop-i.pair) word begins
          leads (equal.0 yes))),
    )
