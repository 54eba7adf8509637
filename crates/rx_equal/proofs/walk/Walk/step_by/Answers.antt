use Rattle.rx_spec.proofs.Prelude.{arith, refl, common_steps}
use Rattle.rx_base.specs.Unit.{unit_number}
use Rattle.rx_equal.specs.declared.evidence.Link.{Link}
use Rattle.rx_equal.specs.Pairs.{pairs_of, rows_of}
use Rattle.rx_equal.proofs.Sides.{sides}
use Rattle.rx_equal.proofs.Walks.{stepped_by, went_by}
use Rattle.rx_equal.proofs.walk.Walk.step_by.Goals as goal

pub add-requires-clause-stands : goal.add-requires-clause-stands
add-requires-clause-stands g c = grind (arith, common_steps)

pub returns-clause-stepped : goal.returns-clause-stepped
returns-clause-stepped g c =
    let s = sides g.A.Automaton g.B.Automaton c.args.a.now c.args.b.now in
    stepped_by s.t s.u (pairs_of s.ids s.others c.args.self.now.pairs) (pairs_of s.ids s.others c.add.new.self.pairs)
    (rows_of s.ids s.others c.args.pair.now) (rows_of s.ids s.others c.next_of-next.result) (unit_number c.args.unit)
    c.in_ok-add.field-0 c.have_equal_labels.result c.next_of-next.ensures.rows c.in_ok-add.ensures.adds
    c.if-not-branch.false c.requires.labels c.have_equal_labels.ensures.0 c.have_equal_labels.ensures.1

pub returns-clause-went_on : goal.returns-clause-went_on
returns-clause-went_on g c =
    let s = sides g.A.Automaton g.B.Automaton c.args.a.now c.args.b.now in
    let add = c.in_ok-add.ensures in
    went_by c.args.self.now c.add.new.self (rows_of s.ids s.others c.next_of-next.result)
    (Link.Next c.args.at c.args.unit) c.in_ok-add.field-0 add.walked add.adds add.links refl
