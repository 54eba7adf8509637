use Rattle.rx_spec.proofs.Prelude.{◌<◌, arith, length}
use Rattle.rx_equal.proofs.Comparing.{walked_none, way_begins, way_ends, way_goes_on, way_parts}
use Rattle.rx_equal.proofs.Sides.{sides}
use Rattle.rx_equal.proofs.walk.compare.Goals as goal

pub begin_all-requires-clause-walked : goal.begin_all-requires-clause-walked
begin_all-requires-clause-walked g c =
    let s = sides g.A.Automaton g.B.Automaton c.args.a.now c.args.b.now in
    let new = c.new-2.ensures s.ids s.others in
    walked_none {s = s} new.0 new.1 c.new.ensures

pub pairs-init : goal.pairs-init
pairs-init g c = way_begins c.new.ensures c.in_ok-place.ensures.went_on c.in_ok-place.ensures.looked c.in_default.is

pub returns-in-Some-2 : goal.returns-in-Some-2
returns-in-Some-2 g c =
    let more : c.pairs.at < length c.pairs.walk.pairs.list.items = omega arith in
    way_parts c.pairs.invariant more c.in_ok-unit.ensures.went_on c.in_ok-unit.ensures.stepped c.in-Some-2.unit
    c.in_ok-parting.field-0 c.in-Some-2.is c.in_ok-parting.ensures

pub pairs-preserved : goal.pairs-preserved
pairs-preserved g c =
    let more : c.pairs.at < length c.pairs.walk.pairs.list.items = omega arith in
    way_goes_on c.pairs.invariant more c.in_ok-unit.ensures.went_on c.in_ok-unit.ensures.stepped c.in_default-2.is

pub returns : goal.returns
returns g c = way_ends c.pairs.invariant (omega arith)
